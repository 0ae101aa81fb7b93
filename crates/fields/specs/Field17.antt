-- The rules of the tables of the field of 17 elements, each by one computed test, and the laws that follow.
use Rattle.std.specs.Prelude.{◌≡◌, ℕ, zero, suc, ◌+◌, ◌-◌, ◌*◌, ◌%◌, ◌<◌, ◌≤◌, Bool, true, false, cond, not, ltb, ◌≢◌, ◌==◌, nat_eq, nat_lt, slice_index, Option, Some, None, refl}
use Rattle.std.specs.Option.{option_map, option_zip}
use Rattle.std.proofs.Common.{sym, ap, ap₂, subst, ◌∙◌, inl, inr, mod-lt, mod-eq_of_lt, arith, lit<}
use Rattle.std.proofs.Math.Nat.{mod-mod, add-mod}
use Rattle.std.proofs.lemmas.Bool.{not-true, cases_lt, eqb-true, ltb-true, lt-ltb, le-ltb, ne_eqb, cond-true, cond-false, cond_both}
use Rattle.algebra.specs.Rings.{Lawful, power}
use Rattle.algebra.specs.RingsLemmas.{nought-times, times-nought, minus-nought}
use Rattle.algebra.specs.declared.code.Exponent.{Exponent}
use Rattle.algebra.specs.Fields.{Coded, Inverse, Invertible, Primitive}
use Rattle.fields.specs.Residues.{Residue}
use Rattle.fields.specs.declared.seventeen.Seventeen.{Seventeen}
use Rattle.fields.specs.Seventeen.{modulo_17, positive, power_codes, power_numbers, no_power, power_of, added, inverted, coding, meaning, Least, element, three}
use Rattle.fields.specs.ResiduesLemmas.{lawful, residue_same, rest_same, code_below, code_rest, told, told_below, told-past, coded}
use Rattle.fields.specs.Tables.{all, all-below, pairs_below}

abbrev at : ℕ → ℕ
at i = slice_index power_codes i

abbrev number_of : ℕ → ℕ
number_of c = slice_index power_numbers c

-- a rule that is an equation holds at each number, or pair of numbers, below a bound, by its test
equal-below : (f g : ℕ → ℕ) (n : ℕ) → all (λ k. nat_eq (f k) (g k)) n ≡ true → (k : ℕ) → k < n → f k ≡ g k
equal-below f g n e k h = eqb-true (f k) (g k) (all-below (λ i. nat_eq (f i) (g i)) n e k h)

equal_pairs : (f g : ℕ → ℕ → ℕ) (n : ℕ) → all (λ i. all (λ j. nat_eq (f i j) (g i j)) n) n ≡ true → (i j : ℕ) → i < n → j < n → f i j ≡ g i j
equal_pairs f g n e i j hi hj = eqb-true (f i j) (g i j) (pairs_below (λ a b. nat_eq (f a b) (g a b)) n n e i j hi hj)

-- the powers of a sum, of a half turn more, and of what is left of a turn
product : (i j : ℕ) → i < 16 → j < 16 → at ((i + j) % 16 % 16) % 17 ≡ ((at i % 17) * (at j % 17)) % 17
product = equal_pairs (λ i j. at ((i + j) % 16 % 16) % 17) (λ i j. ((at i % 17) * (at j % 17)) % 17) 16 refl

opposite : (i : ℕ) → i < 16 → at ((i + 8) % 16 % 16) % 17 ≡ (17 - at i % 17) % 17
opposite = equal-below (λ i. at ((i + 8) % 16 % 16) % 17) (λ i. (17 - at i % 17) % 17) 16 refl

upside : (i : ℕ) → i < 16 → (at i % 17 * (at ((16 - i) % 16 % 16) % 17)) % 17 ≡ 1
upside = equal-below (λ i. (at i % 17 * (at ((16 - i) % 16 % 16) % 17)) % 17) (λ i. 1) 16 refl

-- each entry is the code of its power, and none is zero
powers_right : (i : ℕ) → i < 16 → (power modulo_17 (meaning three) i).code ≡ at i
powers_right = equal-below (λ i. (power modulo_17 (meaning three) i).code) at 16 refl

code_low : (i : ℕ) → i < 16 → 0 < at i
code_low i h = ltb-true 0 (at i) (all-below (λ k. ltb 0 (at k)) 16 refl i h)

code_high : (i : ℕ) → i < 16 → at i < 17
code_high i h = ltb-true (at i) 17 (all-below (λ k. ltb (at k) 17) 16 refl i h)

-- each table undoes the other
number_at : (i : ℕ) → i < 16 → number_of (at i) ≡ i
number_at = equal-below (λ i. number_of (at i)) (λ i. i) 16 refl

pub number_high : (c : ℕ) → c < 17 → number_of c < 16
number_high c h = ltb-true (number_of c) 16 (all-below (λ k. ltb (number_of k) 16) 17 refl c h)

at-number : (c : ℕ) → c < 17 → c ≢ 0 → at (number_of c) ≡ c
at-number c h z =
    let back = equal-below (λ k. at (number_of (suc k))) suc 16 refl in
    elim c as (λ k. k < 17 → k ≢ 0 → at (number_of k) ≡ k) [ zero ↦ (λ h z. absurd (z refl)) | suc k ↦ (λ h z. back k (omega arith)) ] h z

element_code : (c : ℕ) → c < 17 → coding (element c) ≡ c
element_code = equal-below (λ c. coding (element c)) (λ c. c) 17 refl

element-past : (c : ℕ) → 17 ≤ c → element c ≡ no_power
element-past c h =
    cond-false (c == 0) no_power (cond (nat_lt c 17) (power_of (number_of c)) no_power) (ne_eqb c 0 (λ e. omega arith))
    ∙ cond-false (nat_lt c 17) (power_of (number_of c)) no_power (le-ltb c 17 h)

pub element_least : (c : ℕ) → Least (element c)
element_least c =
    cond_both (c == 0) no_power (cond (nat_lt c 17) (power_of (number_of c)) no_power) Least (λ e. tt)
    (λ e. cond_both (nat_lt c 17) (power_of (number_of c)) no_power Least (λ lt. number_high c (ltb-true c 17 lt)) (λ e. tt))

under : (e : ℕ) → e % 16 < 16
under e = mod-lt e (lit< tt)

-- the element held by this power number, or by none
abbrev pub held : Option Exponent → Seventeen
held p = record { power = p }

held_under : (p : Option Exponent) → coding (held p) < 17
held_under None = lit< tt
held_under (Some e) = code_high (e.0 % 16) (under e.0)

pub code_under : (x : Seventeen) → coding x < 17
code_under x = held_under x.power

-- an element held as answers are is the element of its code
again : (p : Option Exponent) → Least (held p) → element (coding (held p)) ≡ held p
again None h = refl
again (Some e) h =
    let c = at (e.0 % 16) in
    let i = under e.0 in
    cond-false (c == 0) no_power (cond (nat_lt c 17) (power_of (number_of c)) no_power) (ne_eqb c 0 (λ z. omega (arith, code_low (e.0 % 16) i)))
    ∙ cond-true (nat_lt c 17) (power_of (number_of c)) no_power (lt-ltb c 17 (code_high (e.0 % 16) i))
    ∙ ap power_of (number_at (e.0 % 16) i ∙ mod-eq_of_lt h)

meaning_code : (x : Seventeen) → (meaning x).code ≡ coding x
meaning_code x = mod-eq_of_lt (code_under x)

pub unique : (x y : Seventeen) → Least x → Least y → meaning x ≡ meaning y → x ≡ y
unique x y hx hy e =
    sym (again x.power hx) ∙ ap element (sym (meaning_code x) ∙ ap (λ r. r.code) e ∙ meaning_code y) ∙ again y.power hy

laws : Lawful modulo_17
laws = lawful 17 positive

-- the code of what a code below 17 means
code_element : (c : ℕ) → c < 17 → (meaning (element c)).code ≡ c
code_element c h = meaning_code (element c) ∙ element_code c h

pub code_means : (c : ℕ) (x : Seventeen) → c < 17 → meaning (element c) ≡ meaning x → c ≡ coding x % 17
code_means c x h e = sym (code_element c h) ∙ ap (λ (r : Residue 17). r.code) e

-- the sum, by codes below 17
pub code_sum : (a b : ℕ) → a < 17 → b < 17 → meaning (element ((a + b) % 17)) ≡ modulo_17.plus (meaning (element a)) (meaning (element b))
code_sum a b ha hb =
    rest_same 17 positive _ _ (
    ap (λ (n : ℕ). n % 17) (element_code ((a + b) % 17) (mod-lt (a + b) positive)) ∙ mod-mod (a + b) 17
    ∙ sym (ap₂ (λ m n. (m + n) % 17) (code_element a ha) (code_element b hb)))

-- the sum of what two elements mean
pub sum-means : (x y : Seventeen) → meaning (element ((coding x + coding y) % 17)) ≡ modulo_17.plus (meaning x) (meaning y)
sum-means x y =
    rest_same 17 positive _ _ (
    ap (λ (n : ℕ). n % 17) (element_code ((coding x + coding y) % 17) (mod-lt (coding x + coding y) positive)) ∙ mod-mod (coding x + coding y) 17
    ∙ sym (ap₂ (λ m n. (m + n) % 17) (meaning_code x) (meaning_code y)))

abbrev agrees : Bool → Bool → Bool
agrees true t = t
agrees false t = not t

agree : (s t : Bool) → agrees s t ≡ true → s ≡ t
agree true t e = sym e
agree false t e = sym (not-true t e)

-- power numbers have one rest exactly where the powers are the same
pub same_powers : (a b : Exponent) → (a.0 % 16 == b.0 % 16) ≡ modulo_17.alike (meaning (held (Some a))) (meaning (held (Some b)))
same_powers a b = agree _ _ (pairs_below (λ i j. agrees (i == j) (at i % 17 == at j % 17)) 16 16 refl (a.0 % 16) (b.0 % 16) (under a.0) (under b.0))

-- the product, the negative and the inverse, by power numbers

-- the value of the power with a number
abbrev turn : ℕ → Residue 17
turn n = meaning (power_of n)

pub product-means : (p q : Option Exponent) → meaning (held (option_map (λ t. added t.0 t.1) (option_zip p q))) ≡ modulo_17.times (meaning (held p)) (meaning (held q))
product-means None q = sym (nought-times modulo_17 laws (meaning (held q)))
product-means (Some a) None = sym (times-nought modulo_17 laws (meaning (held (Some a))))
product-means (Some a) (Some b) = ap turn (add-mod a.0 b.0 16) ∙ rest_same 17 positive _ _ (product (a.0 % 16) (b.0 % 16) (under a.0) (under b.0))

pub opposite_means : (p : Option Exponent) → meaning (held (option_map (λ a. added a (record { 0 = 8 })) p)) ≡ modulo_17.minus (meaning (held p))
opposite_means None = sym (minus-nought modulo_17 laws)
opposite_means (Some a) = ap turn (add-mod a.0 8 16) ∙ rest_same 17 positive _ _ (opposite (a.0 % 16) (under a.0))

code_nonzero : (a : Exponent) → at (a.0 % 16) % 17 ≢ 0
code_nonzero a e = let l = code_low (a.0 % 16) (under a.0) in let h = code_high (a.0 % 16) (under a.0) in omega arith

pub inverse_means : (p : Option Exponent) → Inverse modulo_17 (meaning (held p)) (meaning (held (option_map inverted p)))
inverse_means None = record { of_nought = λ z. refl; of_other = λ z. absurd (z refl) }
inverse_means (Some a) = record {
  of_nought = λ z. absurd (code_nonzero a (ap (λ (r : Residue 17). r.code) z));
  of_other = λ z. rest_same 17 positive _ 1 (upside (a.0 % 16) (under a.0));
}

-- the codes

pub of_code : (x : Seventeen) → meaning (element (coding x)) ≡ meaning x
of_code x = rest_same 17 positive _ _ (ap (λ (n : ℕ). n % 17) (element_code (coding x) (code_under x)))

element-told : (c : ℕ) → meaning (element c) ≡ told 17 positive c
element-told c = elim (cases_lt c 17) [
  | inl lt ↦ rest_same 17 positive (coding (element c)) c (ap (λ (n : ℕ). n % 17) (element_code c lt)) ∙ sym (told_below 17 positive c lt)
  | inr ge ↦ ap meaning (element-past c ge) ∙ sym (told-past 17 positive c ge)
]

pub is_coded : Coded modulo_17 17 (λ c. meaning (element c))
is_coded = subst (λ f. Coded modulo_17 17 f) (λ i c. sym (element-told c) i) (coded 17 positive (lit< tt))

element-rest : (r : Residue 17) → meaning (element r.code) ≡ r
element-rest r = element-told r.code ∙ told_below 17 positive r.code (code_below r) ∙ sym (code_rest 17 positive r)

pub invertible : Invertible modulo_17
invertible r = subst (λ t. (y : Residue 17) × Inverse modulo_17 t y) (element-rest r) (meaning (held (option_map inverted (element r.code).power)), inverse_means (element r.code).power)

-- the powers of 3

pub is_primitive : Primitive modulo_17 17 (meaning three)
is_primitive = record {
  nonzero = λ e h z. (let p : at e ≡ 0 = sym (powers_right e h) ∙ ap (λ (r : Residue 17). r.code) z in omega (arith, code_low e h));
  once = λ d e hd he z. sym (number_at d hd) ∙ ap number_of (sym (powers_right d hd) ∙ ap (λ (r : Residue 17). r.code) z ∙ powers_right e he) ∙ number_at e he;
  every = λ r z. (
    number_of r.code,
    number_high r.code (code_below r),
    residue_same (power modulo_17 (meaning three) (number_of r.code)) r
        (powers_right (number_of r.code) (number_high r.code (code_below r)) ∙ at-number r.code (code_below r) (λ e. z (residue_same r modulo_17.nought e))),
  );
}
