-- Repeated division by x - a, and the multiplicity of a root.
use Rattle.std.proofs.Common.{◌≡◌, ℕ, zero, suc, ◌<◌, ◌≤◌, ◌≢◌, List, sym, refl, ◌∙◌, le_of_suc-le-suc, lt_of_not-le, arith}
use Rattle.algebra.specs.Rings.{Ops, Lawful}
use Rattle.algebra.specs.Polynomials.{eval, product}
use Rattle.roots.specs.Division.{linear, linear_power, Same, Divides, Multiplicity, quotient}
use Rattle.roots.proofs.Products.{eval_same, product_same, product_assoc, unit-product}
use Rattle.roots.specs.Slopes.{slope}
use Rattle.roots.proofs.Division.{slope-quotient, eval_multiple, divide_root, quotient_same, quotient-product}

-- f divided e times by x - a
abbrev pub divided : (o : Ops) → o.V → ℕ → List o.V → List o.V
divided o a zero f = f
divided o a (suc e) f = divided o a e (quotient o a f)

pub not_above : (m n : ℕ) → (n < m → ⊥) → m ≤ n
not_above m n h = le_of_suc-le-suc (lt_of_not-le (λ (g : suc n ≤ m). h g))

module _ (o : Ops) (L : Lawful o) where
  pub divided-quotient : (a : o.V) (e : ℕ) (f : List o.V) → divided o a (suc e) f ≡ divided o a e (quotient o a f)
  divided-quotient a e f = refl

  pub divided-suc : (a : o.V) (e : ℕ) (f : List o.V) → divided o a (suc e) f ≡ quotient o a (divided o a e f)
  divided-suc a zero f = refl
  divided-suc a (suc e) f = divided-suc a e (quotient o a f)

  pub divided_same : (a : o.V) (e : ℕ) (f g : List o.V) → Same o f g → Same o (divided o a e f) (divided o a e g)
  divided_same a zero f g s = s
  divided_same a (suc e) f g s = divided_same a e (quotient o a f) (quotient o a g) (quotient_same o L a f g s)

  pub divides_same : (p f g : List o.V) → Same o f g → Divides o p g → Divides o p f
  divides_same p f g s d = (d.0, λ k. s k ∙ d.1 k)

  pub divides_zero : (a : o.V) (f : List o.V) → Divides o (linear_power o a zero) f
  divides_zero a f = (f, λ k. sym (unit-product o L f k))

  -- (x - a)^(e + 1) divides f exactly if a is a root and (x - a)^e divides the quotient
  pub divides_suc : (a : o.V) (e : ℕ) (f : List o.V) → eval o f a ≡ o.nought → Divides o (linear_power o a e) (quotient o a f) → Divides o (linear_power o a (suc e)) f
  divides_suc a e f r d =
      let l = linear o a in
      let p = linear_power o a e in (
        d.0,
        λ k. divide_root o L a f r k
            ∙ product_same o L l l (quotient o a f) (product o p d.0) (λ i. refl) d.1 k
            ∙ sym (product_assoc o L l p d.0 k),
      )

  -- (x - a)^(e + 1) h = (x - a) ((x - a)^e h)
  split : (a : o.V) (e : ℕ) (f h : List o.V) → Same o f (product o (linear_power o a (suc e)) h) → Same o f (product o (linear o a) (product o (linear_power o a e) h))
  split a e f h s k = s k ∙ product_assoc o L (linear o a) (linear_power o a e) h k

  pub divides_root : (a : o.V) (e : ℕ) (f : List o.V) → Divides o (linear_power o a (suc e)) f → eval o f a ≡ o.nought
  divides_root a e f d =
      let q = product o (linear_power o a e) d.0 in
      eval_same o L f (product o (linear o a) q) a (split a e f d.0 d.1) ∙ eval_multiple o L a q

  pub divides_quotient : (a : o.V) (e : ℕ) (f : List o.V) → Divides o (linear_power o a (suc e)) f → Divides o (linear_power o a e) (quotient o a f)
  divides_quotient a e f d =
      let q = product o (linear_power o a e) d.0 in
      (d.0, λ k. quotient_same o L a f (product o (linear o a) q) (split a e f d.0 d.1) k ∙ quotient-product o L a q k)

  pub divides_back : (a : o.V) (e : ℕ) (f : List o.V) → Divides o (linear_power o a e) f → (i : ℕ) → i < e → eval o (divided o a i f) a ≡ o.nought
  divides_back a zero f d i h = absurd (bad h)
    where
      bad : i < 0 → ⊥
      bad h = omega arith
  divides_back a (suc e) f d zero h = divides_root a e f d
  divides_back a (suc e) f d (suc i) h = divides_back a e (quotient o a f) (divides_quotient a e f d) i (omega arith)

  pub divides_from : (a : o.V) (e : ℕ) (f : List o.V) → ((i : ℕ) → i < e → eval o (divided o a i f) a ≡ o.nought) → Divides o (linear_power o a e) f
  divides_from a zero f h = divides_zero a f
  divides_from a (suc e) f h =
      divides_suc a e f (h zero (omega arith)) (divides_from a e (quotient o a f) (λ i l. h (suc i) (omega arith)))

  -- f = (x - a)^e (f divided e times)
  pub divided_law : (a : o.V) (e : ℕ) (f : List o.V) → Divides o (linear_power o a e) f → Same o f (product o (linear_power o a e) (divided o a e f))
  divided_law a zero f d k = sym (unit-product o L f k)
  divided_law a (suc e) f d k =
      let l = linear o a in
      let p = linear_power o a e in
      let q = quotient o a f in
      let h = divided o a e q in
      divide_root o L a f (divides_root a e f d) k
      ∙ product_same o L l l q (product o p h) (λ i. refl) (divided_law a e q (divides_quotient a e f d)) k
      ∙ sym (product_assoc o L l p h k)

  pub multiplicity_from : (a : o.V) (e : ℕ) (f : List o.V) → ((i : ℕ) → i < e → eval o (divided o a i f) a ≡ o.nought) → eval o (divided o a e f) a ≢ o.nought → Multiplicity o f a e
  multiplicity_from a e f h n =
      record { divides = divides_from a e f h; largest = λ m d. not_above m e (λ l. n (divides_back a m f d e l)) }

  pub multiplicity_roots : (a : o.V) (e : ℕ) (f : List o.V) → Multiplicity o f a e → (i : ℕ) → i < e → eval o (divided o a i f) a ≡ o.nought
  multiplicity_roots a e f m = divides_back a e f m.divides

  pub multiplicity_stops : (a : o.V) (e : ℕ) (f : List o.V) → Multiplicity o f a e → eval o (divided o a e f) a ≢ o.nought
  multiplicity_stops a e f m z =
      let h : suc e ≤ e = m.largest (suc e) (divides_from a (suc e) f all) in omega arith
    where
      all : (i : ℕ) → i < suc e → eval o (divided o a i f) a ≡ o.nought
      all i l = grind (arith, z, multiplicity_roots a e f m i)

  pub multiplicity_once : (a : o.V) (d e : ℕ) (f : List o.V) → Multiplicity o f a d → Multiplicity o f a e → d ≡ e
  multiplicity_once a d e f m n =
      let p : d ≤ e = n.largest d m.divides in
      let q : e ≤ d = m.largest e n.divides in
      omega arith

  pub root_positive : (a : o.V) (e : ℕ) (f : List o.V) → Multiplicity o f a e → eval o f a ≡ o.nought → 0 < e
  root_positive a e f m r = m.largest 1 (divides_suc a zero f r (divides_zero a (quotient o a f)))

  pub positive_root : (a : o.V) (e : ℕ) (f : List o.V) → Multiplicity o f a e → 0 < e → eval o f a ≡ o.nought
  positive_root a e f m h = multiplicity_roots a e f m zero h

  pub nonroot_multiplicity : (a : o.V) (f : List o.V) → eval o f a ≢ o.nought → Multiplicity o f a 0
  nonroot_multiplicity a f n = record { divides = divides_zero a f; largest = below }
    where
      below : (m : ℕ) → Divides o (linear_power o a m) f → m ≤ 0
      below zero d = omega arith
      below (suc m) d = absurd (n (divides_root a m f d))

  pub root_multiplicity : (a : o.V) (e : ℕ) (f : List o.V) → eval o f a ≡ o.nought → Multiplicity o (quotient o a f) a e → Multiplicity o f a (suc e)
  root_multiplicity a e f r m = record { divides = divides_suc a e f r m.divides; largest = below }
    where
      below : (n : ℕ) → Divides o (linear_power o a n) f → n ≤ suc e
      below zero d = omega arith
      below (suc n) d = let h : n ≤ e = m.largest n (divides_quotient a n f d) in omega arith

  pub repeated_from : (a : o.V) (f : List o.V) → eval o f a ≡ o.nought → slope o f a ≡ o.nought → Divides o (linear_power o a 2) f
  repeated_from a f r s =
      divides_suc a 1 f r (divides_suc a zero (quotient o a f) (slope-quotient o L a f ∙ s) (divides_zero a (quotient o a (quotient o a f))))

  pub repeated_root : (a : o.V) (f : List o.V) → Divides o (linear_power o a 2) f → (eval o f a ≡ o.nought) × (slope o f a ≡ o.nought)
  repeated_root a f d = (divides_root a 1 f d, sym (slope-quotient o L a f) ∙ divides_root a zero (quotient o a f) (divides_quotient a 1 f d))

  pub simple_from : (a : o.V) (f : List o.V) → eval o f a ≡ o.nought → slope o f a ≢ o.nought → Multiplicity o f a 1
  simple_from a f r s = multiplicity_from a 1 f one (λ z. s (sym (slope-quotient o L a f) ∙ z))
    where
      one : (i : ℕ) → i < 1 → eval o (divided o a i f) a ≡ o.nought
      one zero h = r
      one (suc i) h = absurd (bad i h)
        where
          bad : (i : ℕ) → suc i < 1 → ⊥
          bad i h = omega arith

  pub simple_root : (a : o.V) (f : List o.V) → Multiplicity o f a 1 → (eval o f a ≡ o.nought) × (slope o f a ≢ o.nought)
  simple_root a f m =
      let r = divides_root a zero f m.divides in
      (r, λ s. (let h : 2 ≤ 1 = m.largest 2 (repeated_from a f r s) in omega arith))
