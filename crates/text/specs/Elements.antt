-- Elements of a ring and what names them. `value` is what an element means, and `of` what a name stands for.
use Rattle.std.specs.Prelude.{◌≡◌, ℕ, List, map, Option, Some, None}
use Rattle.std.specs.List.{flat_map, AllByRecursion}
use Rattle.algebra.specs.declared.dual.Dual.{Dual}

-- of both parts of a dual number: what they mean, that they are canonical, and what two names stand for
abbrev pub both_mean : {S V : Type 0} → (S → V) → Dual S → V × V
both_mean value x = (value x.re, value x.eps)

abbrev pub BothHeld : {S : Type 0} → (S → Type 0) → Dual S → Type 0
BothHeld canonical x = canonical x.re × canonical x.eps

abbrev pub both_named : {N V : Type 0} → (N → V) → N × N → V × V
both_named of p = (of p.0, of p.1)

-- what is read is the element, in canonical form, that the name stands for, and nothing where there is no name
abbrev pub IsRead : {N S V : Type 0} → (S → V) → (S → Type 0) → (N → V) → Option N → Option S → Type 0
IsRead value canonical of (Some n) (Some x) = (value x ≡ of n) × canonical x
IsRead value canonical of (Some n) None = ⊥
IsRead value canonical of None (Some x) = ⊥
IsRead value canonical of None None = Unit {0}

-- the elements are those that the names stand for, in order, each in canonical form
pub record Named {N S V : Type 0} (value : S → V) (canonical : S → Type 0) (of : N → V) (names : List N) (xs : List S) : Type 0 where
  pub means : map value xs ≡ map of names
  pub held : AllByRecursion canonical xs

-- the text shows a name of each element, in order; `right` tells the one name of an element from any other
pub record Shown {N S V : Type 0} (value : S → V) (of : N → V) (right : N → Type 0) (show : N → List ℕ) (xs : List S) (text : List ℕ) : Type 0 where
  pub names : List N
  pub means : map of names ≡ map value xs
  pub chosen : AllByRecursion right names
  pub shows : text ≡ flat_map show names
