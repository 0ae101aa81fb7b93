-- What a work space holds, out of the fact that it does.
use Rattle.std.proofs.Common.{◌≡◌, true, false, Bool, List, refl}
use Rattle.std.proofs.lemmas.Bool.{both_ways}
use mathlib.Core.Logic.{∥∥₁_elim}
use mathlib.Core.HLevel.{Discrete, Π_prop, ×_discrete, hedberg}
use native.Mathlib.Bridge.{le_prop}
use mathlib.Core.List.{is_set}
use Rattle.algebra.specs.Rings.{Ops, Lawful}
use Rattle.algebra.specs.declared.dual.Dual.{Dual}
use Rattle.algebra.specs.declared.ring.Ring.{Ghosts as RingOf}
use Rattle.algebra.specs.declared.field.Field.{Ghosts as FieldOf}
use Rattle.roots.specs.Searches.{Holds}

-- equality is decided in a ring
alike_discrete : (o : Ops) → Lawful o → Discrete o.V
alike_discrete o L x y = go (o.alike x y) refl
  where
    go : (b : Bool) → o.alike x y ≡ b → Dec (x ≡ y)
    go true e = yes (L.alike_same x y e)
    go false e = no (λ p. both_ways (o.alike x y) e (L.same_alike x y p))

pub held : {S : Type 0} (R : RingOf S) (F : FieldOf S) (L : Lawful R.ring) (f : List R.ring.V) (n : _) (work : List (Dual S)) → ∥ Holds R F f n work ∥₁ → Holds R F f n work
held R F L f n work h = ∥∥₁_elim h once (λ x. x)
  where
    numbers : IsSet (List (R.ring.V × R.ring.V))
    numbers = is_set (hedberg (×_discrete (alike_discrete R.ring L) (alike_discrete R.ring L)))

    once : IsProp (Holds R F f n work)
    once a b = λ i. record {
      room = Π_prop (λ j. Π_prop (λ _. le_prop)) a.room b.room i;
      level = Π_prop (λ j. Π_prop (λ _. numbers _ _)) a.level b.level i;
    }
