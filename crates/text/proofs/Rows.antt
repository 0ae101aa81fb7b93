-- A row read element by element.
use Rattle.std.proofs.Common.{◌≡◌, ℕ, zero, suc, ◌+◌, ◌<◌, List, [], ◌∷◌, ◌++◌, map, length, get_or, take, Some, None, Option, MatchOption, Vec, vec_items, Bor, sym, refl, ap, ◌∙◌, subst, arith}
use Rattle.std.proofs.lemmas.List.{take_more}
use Rattle.std.proofs.lemmas.List.Folds.{flat_map-map}
use Rattle.std.specs.List.{Any, AllZip, AllByRecursion, flat_map}
use Rattle.std.specs.Fn.{FnReturnsAt}
use denote.Param.Members.{Shared}
use Rattle.text.specs.Numbers.{both, put_first, all_of}
use Rattle.text.specs.Elements.{IsRead, Named, Shown}

-- P holds of two lists whose elements R relates, if it holds of empty lists and one pair more keeps it
module _ {A B : Type 0} (R : A → B → Type 0) (P : List A → List B → Type 0) (none : P [] []) (more : (x : A) (xs : List A) (y : B) (ys : List B) → R x y → P xs ys → P (x ∷ xs) (y ∷ ys)) where
  by_zip : (xs : List A) (ys : List B) → AllZip R xs ys → P xs ys
  by_zip [] [] z = none
  by_zip [] (y ∷ ys) z = absurd z
  by_zip (x ∷ xs) [] z = absurd z
  by_zip (x ∷ xs) (y ∷ ys) z = more x xs y ys z.0 (by_zip xs ys z.1)

module _ {A B : Type 0} (R : A → B → Type 0) where
  zip_push : (x : A) (y : B) → R x y → (xs : List A) (ys : List B) → AllZip R xs ys → AllZip R (xs ++ (x ∷ [])) (ys ++ (y ∷ []))
  zip_push x y r = by_zip R (λ xs ys. AllZip R (xs ++ (x ∷ [])) (ys ++ (y ∷ []))) (r, tt) (λ a xs b ys h t. (h, t))

  pub zip_more : (xs : List A) (i : ℕ) (ys : List B) (d : A) (y : B) → i < length xs → R (get_or xs i d) y → AllZip R (take i xs) ys → AllZip R (take (i + 1) xs) (ys ++ (y ∷ []))
  zip_more xs i ys d y l r z = subst (λ front. AllZip R front (ys ++ (y ∷ []))) (sym (take_more xs i d l)) (zip_push (get_or xs i d) y r (take i xs) ys z)

module _ {X Y : Type 0} (f : X → Option Y) where
  stops : (o : Option Y) → put_first (both {Y = List Y} o None) ≡ None
  stops (Some y) = refl
  stops None = refl

  -- one of the row that stands for nothing
  all_of-none : (xs : List X) (k : ℕ) (x : X) → k < length xs → get_or xs k x ≡ x → f x ≡ None → all_of f xs ≡ None
  unfolding all_of
  all_of-none [] k x l at e = let none : ⊥ = omega arith in absurd none
  all_of-none (y ∷ ys) zero x l at e = ap (λ o. put_first (both o (all_of f ys))) (ap f at ∙ e)
  all_of-none (y ∷ ys) (suc k) x l at e = ap (λ o. put_first (both (f y) o)) (all_of-none ys k x (omega arith) at e) ∙ stops (f y)

-- what `each` answers of a row
abbrev pub EachRead : {T F S Z : Type 0} → Shared F (Bor T × Unit {0}) (Option S) → F → List (Bor T) → Option (Vec S Z) → Type 0
EachRead g read row o = MatchOption o (Any (λ w. FnReturnsAt g read w.now None) row) (λ v. AllZip (λ w x. FnReturnsAt g read w.now (Some x)) row (vec_items v))

module _ {T F Y : Type 0} {g : Shared F (Bor T × Unit {0}) (Option Y)} {read : F} (f : T → Option Y) (says : (w : T) (o : Option Y) → FnReturnsAt g read w o → o ≡ f w) where
  all_of-some : (row : List (Bor T)) (ys : List Y) → AllZip (λ w x. FnReturnsAt g read w.now (Some x)) row ys → all_of (λ w. f w.now) row ≡ Some ys
  unfolding all_of
  all_of-some =
      by_zip _ (λ row ys. all_of (λ w. f w.now) row ≡ Some ys) refl
      (λ w row y ys h t. ap (λ o. put_first (both o (all_of (λ w. f w.now) row))) (sym (says w.now (Some y) h)) ∙ ap (λ o. put_first (both (Some y) o)) t)

pub all_said : {T F Y Z : Type 0} {g : Shared F (Bor T × Unit {0}) (Option Y)} {read : F} (f : T → Option Y) (row : List (Bor T)) (o : Option (Vec Y Z)) → EachRead g read row o → ((w : T) (r : Option Y) → FnReturnsAt g read w r → r ≡ f w) → MatchOption o (all_of (λ w. f w.now) row ≡ None) (λ v. all_of (λ w. f w.now) row ≡ Some (vec_items v))
all_said f row None h says = all_of-none (λ w. f w.now) row h.0 h.1 h.2 h.3 (sym (says h.1.now None h.4))
all_said f row (Some v) h says = all_of-some f says row (vec_items v) h

module _ {N S V : Type 0} (value : S → V) (canonical : S → Type 0) (of : N → V) where
  pub named_zip : (names : List N) (xs : List S) → AllZip (λ n x. (value x ≡ of n) × canonical x) names xs → Named value canonical of names xs
  named_zip = by_zip _ (Named value canonical of) (record { means = refl; held = tt }) (λ n names x xs h t. record { means = cc (h.0, t.means); held = (h.1, t.held) })

  abbrev AllRead : {X : Type 0} → (X → Option N) → List X → List S → Type 0
  AllRead name row xs = (names : List N) × (all_of name row ≡ Some names) × Named value canonical of names xs

  first_read : (o : Option N) (x : S) (rest : Option (List N)) (xs : List S) → IsRead value canonical of o (Some x) → (names : List N) × (rest ≡ Some names) × Named value canonical of names xs → (names : List N) × (put_first (both o rest) ≡ Some names) × Named value canonical of names (x ∷ xs)
  first_read (Some n) x rest xs r more = (n ∷ more.0, ap (λ o. put_first (both (Some n) o)) more.1, record { means = cc (r.0, more.2.means); held = (r.1, more.2.held) })
  first_read None x rest xs r more = absurd r

  nothing_read : (o : Option N) → IsRead value canonical of o None → o ≡ None
  nothing_read (Some n) r = absurd r
  nothing_read None r = refl

  module _ {T F : Type 0} {g : Shared F (Bor T × Unit {0}) (Option S)} {read : F} (name : T → Option N) where
    each_read : ((w : T) (r : Option S) → FnReturnsAt g read w r → IsRead value canonical of (name w) r) → (row : List (Bor T)) (xs : List S) → AllZip (λ w x. FnReturnsAt g read w.now (Some x)) row xs → AllRead (λ w. name w.now) row xs
    unfolding all_of
    each_read reads =
        by_zip _ (AllRead (λ w. name w.now)) ([], refl, record { means = refl; held = tt })
        (λ w row x xs h t. first_read (name w.now) x (all_of (λ w. name w.now) row) xs (reads w.now (Some x) h) t)

    pub all_read : {Z : Type 0} (row : List (Bor T)) (o : Option (Vec S Z)) → EachRead g read row o → ((w : T) (r : Option S) → FnReturnsAt g read w r → IsRead value canonical of (name w) r) → MatchOption o (all_of (λ w. name w.now) row ≡ None) (λ v. (names : List N) × (all_of (λ w. name w.now) row ≡ Some names) × Named value canonical of names (vec_items v))
    all_read row None h reads = all_of-none (λ w. name w.now) row h.0 h.1 h.2 h.3 (nothing_read (name h.1.now) (reads h.1.now None h.4))
    all_read row (Some v) h reads = each_read reads row (vec_items v) h

module _ {N S V : Type 0} (value : S → V) (of : N → V) (right : N → Type 0) (show : N → List ℕ) where
  -- an element and what holds its name
  abbrev pub NamedIn : {M : Type 0} → (M → N) → S → M → Type 0
  NamedIn name x m = (of (name m) ≡ value x) × right (name m)

  means : {M : Type 0} (name : M → N) (xs : List S) (ms : List M) → AllZip (NamedIn name) xs ms → (map of (map name ms) ≡ map value xs) × AllByRecursion right (map name ms)
  means name = by_zip (NamedIn name) (λ xs ms. (map of (map name ms) ≡ map value xs) × AllByRecursion right (map name ms)) (refl, tt) (λ x xs m ms h t. (cc (h.0, t.0), (h.1, t.1)))

  pub shown_zip : {M : Type 0} (name : M → N) (xs : List S) (ms : List M) (text : List ℕ) → AllZip (NamedIn name) xs ms → text ≡ flat_map (λ m. show (name m)) ms → Shown value of right show xs text
  shown_zip name xs ms text z e =
      let both = means name xs ms z in
      record { names = map name ms; means = both.0; chosen = both.1; shows = e ∙ sym (flat_map-map show name ms) }
