-- The dual numbers over a lawful ring are a lawful ring.
use Rattle.std.specs.Prelude.{◌≡◌}
use Rattle.std.proofs.Common.{ap}
use Rattle.std.proofs.lemmas.Bool.{and_parts, and_from}
use Rattle.algebra.specs.Rings.{Ops, Lawful}
use Rattle.algebra.specs.Duals.{dual}
use Rattle.algebra.specs.RingsLemmas.{plus_left, times-nought, nought-plus, plus_times}

both : {A B : Type 0} {a c : A} {b d : B} → a ≡ c → b ≡ d → ◌≡◌ {A = A × B} (a, b) (c, d)
both p q = λ i. (p i, q i)

module _ (o : Ops) (L : Lawful o) where
  cross_assoc : (a b c d e f : o.V) → o.plus (o.times (o.times a c) f) (o.times (o.plus (o.times a d) (o.times b c)) e)
      ≡ o.plus (o.times a (o.plus (o.times c f) (o.times d e))) (o.times b (o.times c e))
  cross_assoc a b c d e f =
      cc (
        L.times_assoc a c f,
        plus_times o L (o.times a d) (o.times b c) e,
        L.times_assoc a d e,
        L.times_assoc b c e,
        L.times-plus a (o.times c f) (o.times d e),
        L.plus_assoc (o.times a (o.times c f)) (o.times a (o.times d e)) (o.times b (o.times c e)),
      )

  cross_plus : (a b c d e f : o.V) → o.plus (o.times a (o.plus d f)) (o.times b (o.plus c e))
      ≡ o.plus (o.plus (o.times a d) (o.times b c)) (o.plus (o.times a f) (o.times b e))
  cross_plus a b c d e f =
      let ad = o.times a d in let af = o.times a f in let bc = o.times b c in let be = o.times b e in
      cc (L.times-plus a d f, L.times-plus b c e, L.plus_assoc ad af (o.plus bc be), plus_left o L af bc be, L.plus_assoc ad bc (o.plus af be))

  pub dual_lawful : Lawful (dual o)
  dual_lawful = record {
    plus_assoc = λ x y z. both (L.plus_assoc x.0 y.0 z.0) (L.plus_assoc x.1 y.1 z.1);
    plus_comm = λ x y. both (L.plus_comm x.0 y.0) (L.plus_comm x.1 y.1);
    plus-nought = λ x. both (L.plus-nought x.0) (L.plus-nought x.1);
    plus-minus = λ x. both (L.plus-minus x.0) (L.plus-minus x.1);
    times_assoc = λ x y z. both (L.times_assoc x.0 y.0 z.0) (cross_assoc x.0 x.1 y.0 y.1 z.0 z.1);
    times_comm = λ x y. both (L.times_comm x.0 y.0)
        (cc (L.times_comm x.0 y.1, L.times_comm x.1 y.0, L.plus_comm (o.times y.1 x.0) (o.times y.0 x.1)));
    times-unit = λ x. both (L.times-unit x.0) (cc (times-nought o L x.0, L.times-unit x.1, nought-plus o L x.1));
    times-plus = λ x y z. both (L.times-plus x.0 y.0 z.0) (cross_plus x.0 x.1 y.0 y.1 z.0 z.1);
    alike_same = λ x y e. let p = and_parts _ _ e in both (L.alike_same x.0 y.0 p.0) (L.alike_same x.1 y.1 p.1);
    same_alike = λ x y e. and_from _ _ (L.same_alike x.0 y.0 (ap (λ t. t.0) e)) (L.same_alike x.1 y.1 (ap (λ t. t.1) e));
  }
