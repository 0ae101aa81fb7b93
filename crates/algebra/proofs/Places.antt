-- What is read out of and written into a slice, place by place.
use Rattle.std.proofs.Common.{◌≡◌, ℕ, suc, ◌+◌, ◌-◌, ◌<◌, ◌≤◌, ◌≢◌, List, [], ◌∷◌, map, length, get_or, take, set, refl, sym, ap, ap₂, ◌∙◌, arith, length-take, get_or-set_other, get_or-set_same, below_more}
use Rattle.std.proofs.lemmas.List.{get_or-map, get_or-take}
use Rattle.std.proofs.lemmas.Grind.{common_steps}
use Rattle.std.specs.List.{push, slice_range}

-- an element that was read, as a value
pub read_value : {S V : Type 0} (value : S → V) (f : List S) (i : ℕ) (x : S) (d : V) → i < length f → x ≡ get_or f i x → value x ≡ get_or (map value f) i d
read_value value f i x d h is = ap value is ∙ sym (get_or-map value f i x d h)

-- a loop that writes at each place i an x of which P i holds
pub place_more : {X : Type 0} (P : ℕ → X → Type 0) (xs : List X) (i : ℕ) (x : X) → i < length xs → P i x
    → ((k : ℕ) (d : X) → k < i → P k (get_or xs k d)) → (k : ℕ) (d : X) → k < i + 1 → P k (get_or (set xs i x) k d)
place_more P xs i x inside here before k d h =
    below_more (λ j. P j (get_or (set xs i x) j d)) i
    (λ j l. let ne : j ≢ i = omega arith in rw get_or-set_other (before j d l))
    (rw get_or-set_same here) k h

-- a place of the front of a slice, as a value
pub front_value : {S V : Type 0} (value : S → V) (out : List S) (n k : ℕ) (v e : V) → k < n → n ≤ length out
    → ((d : S) → value (get_or out k d) ≡ v) → get_or (map value (take n out)) k e ≡ v
front_value value [] n k v e h long at = let none : ⊥ = omega arith in absurd none
front_value value (x ∷ xs) n k v e h long at =
    get_or-map value (take n (x ∷ xs)) k x e (omega (arith, length-take n (x ∷ xs))) ∙ ap value (get_or-take n (x ∷ xs) k x h) ∙ at x

-- a slice that holds these values, place by place
pub values_same : {S V : Type 0} (value : S → V) (xs : List S) (ys : List V) (e : V) → length xs ≡ length ys
    → ((k : ℕ) (d : S) → k < length xs → value (get_or xs k d) ≡ get_or ys k e) → map value xs ≡ ys
values_same value [] [] e l h = refl
values_same value [] (y ∷ ys) e l h = let none : ⊥ = omega arith in absurd none
values_same value (x ∷ xs) [] e l h = let none : ⊥ = omega arith in absurd none
values_same value (x ∷ xs) (y ∷ ys) e l h =
    ap₂ ◌∷◌ (h 0 x (omega arith)) (values_same value xs ys e (omega arith) (λ k d b. h (suc k) d (omega arith)))

-- the m places on each side of k, the nearest last and first
pub record Around {X : Type 0} (xs before after : List X) (k m : ℕ) : Type 0 where
  pub room : m ≤ k
  pub inside : k + m < length xs
  pub length-before : length before ≡ m
  pub length-after : length after ≡ m
  pub places-before : (j : ℕ) (d : X) → j < m → get_or before j d ≡ get_or xs (k - m + j) d
  pub places-after : (j : ℕ) (d : X) → j < m → get_or after j d ≡ get_or xs (k + 1 + j) d

pub around_start : {X : Type 0} (xs before after : List X) (k m : ℕ) → m ≤ k → k + m < length xs
    → before ≡ slice_range xs (k - m) k → after ≡ slice_range xs (k + 1) (k + 1 + m) → Around xs before after k (length before)
around_start xs before after k m h l p q =
    let n : length before ≡ m = grind (arith, common_steps, ap length p) in record {
      room = omega arith;
      inside = omega arith;
      length-before = refl;
      length-after = grind (arith, common_steps, ap length q);
      places-before = λ j d i. grind (arith, common_steps);
      places-after = λ j d i. grind (arith, common_steps);
    }

-- the furthest two, from the places i and 2 k - i, are taken
pub record Taken {X : Type 0} (xs before after : List X) (x y : X) (k i : ℕ) : Type 0 where
  pub left : Around xs before after k (length before)
  pub next : k - length before ≡ suc i
  pub first : x ≡ get_or xs i x
  pub last : y ≡ get_or xs (k + k - i) y

pub around_step : {X : Type 0} (xs us vs before after : List X) (x y : X) (k : ℕ) → Around xs us vs k (length us) → us ≡ x ∷ before → vs ≡ push after y
    → Taken xs before after x y k (k - length us)
around_step xs us vs before after x y k s p q =
    let r = s.room in
    let n = s.inside in
    let a : length us ≡ suc (length before) = ap length p in
    let b : length after ≡ length before = grind (arith, common_steps, ap length q, s.length-after) in
    let f = s.places-before 0 x (omega arith) in
    let l = s.places-after (length before) y (omega arith) in
    record {
      left = record {
        room = omega arith;
        inside = omega arith;
        length-before = refl;
        length-after = b;
        places-before = λ j d i. (let t = s.places-before (suc j) d (omega arith) in grind (arith, common_steps));
        places-after = λ j d i. (let t = s.places-after j d (omega arith) in grind (arith, common_steps));
      };
      next = omega arith;
      first = grind (arith, common_steps);
      last = grind (arith, common_steps);
    }
