use Rattle.std.proofs.Common.{◌≡◌, ◌↔◌, ℕ, suc, ◌-◌, Bool, eqb, List, length, take, drop, sym, ap, ◌∙◌, subst, ap₂, arith, rules}
use lib.ListN.{length-map}
use Rattle.algebra.specs.declared.code.Code.{Code}
use Rattle.algebra.specs.declared.ring.Ring.{Ghosts as RingOf}
use Rattle.algebra.specs.declared.field.Field.{Ghosts as FieldOf}
use Rattle.roots.specs.Lists.{In}
use Rattle.roots.specs.declared.record.RootRecord.{RootRecord}
use Rattle.roots.specs.Codes.{element, polynomial}
use Rattle.roots.specs.Roots.{codes, Ascending, Listed, Root, Trials}
use Rattle.roots.proofs.Coding.{good_from, top_nonzero}
use Rattle.roots.proofs.SearchStarts.{roots_fit}
use Rattle.roots.proofs.Visiting.{length-codes}
use Rattle.roots.proofs.list.roots.Goals as goal

-- the list as its caller has it
listed_in : {S : Type 0} (R : RingOf S) (F : FieldOf S) (cs ds : List Code) → cs ≡ ds → (l m : List RootRecord) → l ≡ m
    → {before : List RootRecord} {n : ℕ} {b : Bool} {t : ℕ} → Listed R F (polynomial R F cs) before m n b t → Listed R F (polynomial R F ds) before l n b t
listed_in R F cs ds e l m i {before} {n} {b} {t} h = subst (λ x. Listed R F (polynomial R F ds) before x n b t) (sym i) (subst (λ x. Listed R F (polynomial R F x) before m n b t) e h)

pub total-requires : goal.total-requires
total-requires g c =
    let R = g.F.Ring in
    let F = g.F.Field in
    let L = g.met.F.Ring.lawful in
    let I = c.field_laws-order.ensures.laws in
    let f' = c.new-2.result.f in
    let cs = f'.codes.now in
    let f = polynomial R F cs in
    let good = good_from F.order cs f'.good in
    let found = c.search.new.found in
    let s = c.search.ensures in
    let long : length f ≡ suc (length cs - 1) = length-map cs (λ x. element R F x.0) ∙ omega (arith, good.some) in
    omega (
      arith,
      good.few,
      c.weigh.ensures.kept.0,
      length-codes found.count found.list.now found.inside,
      roots_fit R F L I f (length cs - 1) long (top_nonzero R F L I cs good) _ s.ascending (λ x i. (s.roots x).0 i),
    )

pub returns-clause-lists : goal.returns-clause-lists
returns-clause-lists g c =
    let R = g.F.Ring in
    let F = g.F.Field in
    let cs = c.in_ok-f.f.codes.now in
    let e : c.new-2.result.f.codes.now ≡ cs = c.new-2.ensures in
    let found = c.search.new.found in
    let last = c.weigh.new.self in
    let s = c.search.ensures in
    let w = c.weigh.ensures in
    let same : codes (take last.count last.list.now) ≡ codes (take found.count found.list.now) = w.codes in
    let all : (x : ℕ) → In x (codes (take found.count found.list.now)) ↔ Root R F (polynomial R F cs) x = subst (λ ds. (x : ℕ) → In x (codes (take found.count found.list.now)) ↔ Root R F (polynomial R F ds) x) e s.roots in
    let tried : Trials R F (polynomial R F cs) found.trials = subst (λ ds. Trials R F (polynomial R F ds) found.trials) e s.tried in
    let listed : Listed R F (polynomial R F cs) c.args.list.now last.list.now last.count (eqb c.total.result c.degree-degree.result) last.trials = record {
      long = last.inside;
      ascending = subst Ascending (sym same) s.ascending;
      all = λ x. (λ i. (all x).0 (subst (In x) same i), λ r. subst (In x) (sym same) ((all x).1 r));
      multiplicities = w.weighed;
      rest = w.rest ∙ ap (λ n. drop n found.list.now) w.kept.0 ∙ s.rest ∙ ap₂ drop (sym w.kept.0) c.new-found.ensures.kept;
      splitting = ap₂ eqb c.total.ensures (c.degree-degree.ensures ∙ ap (λ m. m - 1) (sym (length-map cs (λ x. element R F x.0))));
      tried = subst (Trials R F (polynomial R F cs)) (sym w.kept.1) tried;
    } in
    listed_in R F _ _ c.in_ok-f.ensures.kept _ _ (search rules) listed
