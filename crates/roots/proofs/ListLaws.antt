-- Membership in joined lists, and insertion into an ascending list.
use Rattle.std.proofs.Common.{◌≡◌, ℕ, suc, ◌<◌, ◌≤◌, ltb, ◌⊎◌, ◌↔◌, List, [], ◌∷◌, ◌++◌, map, length, sym, refl, ap, subst, inl, inr, arith}
use Rattle.std.proofs.lemmas.Bool.{cond_both, ltb-true, ltb-false}
use Rattle.roots.specs.Lists.{In, Distinct, put}
use Rattle.roots.specs.Roots.{Ascending}

pub in_append : {X : Type 0} (x : X) (xs ys : List X) → In x (xs ++ ys) → In x xs ⊎ In x ys
in_append x [] ys i = inr i
in_append x (y ∷ xs) ys (inl e) = inl (inl e)
in_append x (y ∷ xs) ys (inr i) = elim (in_append x xs ys i) [ inl j ↦ inl (inr j) | inr j ↦ inr j ]

pub append_in : {X : Type 0} (x : X) (xs ys : List X) → In x xs ⊎ In x ys → In x (xs ++ ys)
append_in x [] ys (inl i) = absurd i
append_in x [] ys (inr i) = i
append_in x (y ∷ xs) ys (inl (inl e)) = inl e
append_in x (y ∷ xs) ys (inl (inr i)) = inr (append_in x xs ys (inl i))
append_in x (y ∷ xs) ys (inr i) = inr (append_in x xs ys (inr i))

pub distinct_append : {X : Type 0} (xs ys : List X) → Distinct xs → Distinct ys → ((x : X) → In x xs → In x ys → ⊥) → Distinct (xs ++ ys)
distinct_append [] ys D E apart = E
distinct_append (y ∷ xs) ys D E apart =
    (λ i. elim (in_append y xs ys i) [ inl j ↦ D.0 j | inr j ↦ apart y (inl refl) j ], distinct_append xs ys D.1 E (λ x i j. apart x (inr i) j))

pub map_in : {X Y : Type 0} (g : X → Y) (y : Y) (xs : List X) → In y (map g xs) → (x : X) × In x xs × (y ≡ g x)
map_in g y [] i = absurd i
map_in g y (x ∷ xs) (inl e) = (x, inl refl, e)
map_in g y (x ∷ xs) (inr i) = let t = map_in g y xs i in (t.0, inr t.1, t.2)

-- distinct members stay distinct under a map that takes no value twice on them
pub distinct_map : {X Y : Type 0} (g : X → Y) (xs : List X) → ((x y : X) → In x xs → In y xs → g x ≡ g y → x ≡ y) → Distinct xs → Distinct (map g xs)
distinct_map g [] once D = tt
distinct_map {X} g (x ∷ xs) once D = (
  λ i. (let t = map_in g (g x) xs i in D.0 (subst (λ (y : X). In y xs) (sym (once x t.0 (inl refl) (inr t.1) t.2)) t.1)),
  distinct_map g xs (λ y z i j. once y z (inr i) (inr j)) D.1,
)

pub ascending_distinct : (xs : List ℕ) → Ascending xs → Distinct xs
ascending_distinct [] A = tt
ascending_distinct (x ∷ xs) A = (λ i. (let h : x < x = A.0 x i in omega arith), ascending_distinct xs A.1)

pub put_in : (c : ℕ) (xs : List ℕ) (x : ℕ) → In x (put c xs) → (x ≡ c) ⊎ In x xs
put_in c [] x = λ i. i
put_in c (y ∷ xs) x =
    cond_both (ltb c y) (c ∷ put y xs) (y ∷ put c xs) (λ l. In x l → (x ≡ c) ⊎ In x (y ∷ xs))
    (λ _ i. elim i [ inl e ↦ inl e | inr j ↦ inr (put_in y xs x j) ])
    (λ _ i. elim i [ inl e ↦ inr (inl e) | inr j ↦ elim (put_in c xs x j) [ inl e ↦ inl e | inr k ↦ inr (inr k) ] ])

pub in_put_back : (c : ℕ) (xs : List ℕ) (x : ℕ) → (x ≡ c) ⊎ In x xs → In x (put c xs)
in_put_back c [] x i = i
in_put_back c (y ∷ xs) x i =
    cond_both (ltb c y) (c ∷ put y xs) (y ∷ put c xs) (λ l. In x l)
    (λ _. elim i [ inl e ↦ inl e | inr j ↦ inr (in_put_back y xs x j) ])
    (λ _. elim i [
      | inl e ↦ inr (in_put_back c xs x (inl e))
      | inr j ↦ elim j [ inl e ↦ inl e | inr k ↦ inr (in_put_back c xs x (inr k)) ]
    ])

pub in_put : (c : ℕ) (xs : List ℕ) (x : ℕ) → In x (put c xs) ↔ ((x ≡ c) ⊎ In x xs)
in_put c xs x = (put_in c xs x, in_put_back c xs x)

pub put_ascending : (c : ℕ) (xs : List ℕ) → Ascending xs → (In c xs → ⊥) → Ascending (put c xs)
put_ascending c [] A n = (λ y i. absurd i, tt)
put_ascending c (x ∷ xs) A n =
    cond_both (ltb c x) (c ∷ put x xs) (x ∷ put c xs) (λ l. Ascending l)
    (λ e. (let h : c < x = ltb-true c x e in (
      λ y i. elim (put_in x xs y i) [ inl z ↦ (let w : y ≡ x = z in omega arith) | inr j ↦ (let w : x < y = A.0 y j in omega arith) ],
      put_ascending x xs A.1 (λ i. (let w : x < x = A.0 x i in omega arith)),
    )))
    (λ e. (let h : x < c = above (ltb-false c x e) in (
      λ y i. elim (put_in c xs y i) [ inl z ↦ (let w : y ≡ c = z in omega arith) | inr j ↦ A.0 y j ],
      put_ascending c xs A.1 (λ i. n (inr i)),
    )))
  where
    above : x ≤ c → x < c
    above h = let ne : c ≡ x → ⊥ = λ z. n (inl z) in omega arith

pub length-put : (c : ℕ) (xs : List ℕ) → length (put c xs) ≡ suc (length xs)
length-put c [] = refl
length-put c (x ∷ xs) =
    cond_both (ltb c x) (c ∷ put x xs) (x ∷ put c xs) (λ l. length l ≡ suc (suc (length xs)))
    (λ _. ap suc (length-put x xs)) (λ _. ap suc (length-put c xs))
