-- The tower of transforms: roots on the way up, and the one root that a simple root of a level comes from.
use Rattle.std.proofs.Common.{◌≡◌, ℕ, zero, suc, ◌+◌, ◌-◌, ◌^◌, ◌≢◌, List, [], ◌∷◌, length, sym, refl, ap, ◌∙◌, ap₂, inl, add-zero, add-suc, pow-suc, arith}
use lib.ListN.{length-map}
use Rattle.algebra.specs.Rings.{Ops, Lawful, power, number}
use Rattle.algebra.specs.Fields.{Invertible}
use Rattle.algebra.specs.Duals.{dual}
use Rattle.algebra.specs.Polynomials.{eval, sign}
use Rattle.algebra.specs.Graeffe.{transform, tower}
use Rattle.algebra.specs.RingsLemmas.{times-nought, power-add, number-add}
use Rattle.algebra.proofs.Fields.{times_nonzero, power_nonzero}
use Rattle.algebra.proofs.GraeffeLaws.{sign_square}
use Rattle.algebra.proofs.Solver.{v, 𝟎, 𝟏, ◌⊕◌, ◌⊗◌, ⊖◌, solve, solve₁, solve₂}
use Rattle.roots.proofs.Homs.{map-tower}
use Rattle.roots.specs.Slopes.{slope, reals, epsilons}
use Rattle.roots.proofs.Slopes.{real_hom}
use Rattle.roots.proofs.GraeffeSteps.{turn, tangent_step, slope_step}
use Rattle.roots.proofs.RootSteps.{root_down, root_multiple, Lifted, root_lift, lift_once}

pub twice_power : (k : ℕ) → 2 ^ suc k ≡ 2 ^ k + 2 ^ k
twice_power k = rw pow-suc (omega arith)

module _ (o : Ops) (L : Lawful o) where
  pub power_twice : (x : o.V) (k : ℕ) → power o x (2 ^ suc k) ≡ o.times (power o x (2 ^ k)) (power o x (2 ^ k))
  power_twice x k = ap (power o x) (twice_power k) ∙ power-add o L x (2 ^ k) (2 ^ k)

  pub power_one : (x : o.V) → power o x (2 ^ 0) ≡ x
  power_one x = L.times-unit x

  -- a root's powers are roots of the levels
  pub tower_down : (f : List o.V) (x : o.V) (k : ℕ) → eval o f x ≡ o.nought → eval o (tower o f k) (power o x (2 ^ k)) ≡ o.nought
  tower_down f x zero e = ap (eval o f) (power_one x) ∙ e
  tower_down f x (suc k) e = ap (eval o (tower o f (suc k))) (power_twice x k) ∙ root_down o L (tower o f k) (power o x (2 ^ k)) (tower_down f x k e)

  -- the same from one level to a higher one
  pub tower_up : (f : List o.V) (x : o.V) (j i : ℕ) → eval o (tower o f j) x ≡ o.nought → eval o (tower o f (j + i)) (power o x (2 ^ i)) ≡ o.nought
  tower_up f x j zero e = rw add-zero (ap (eval o (tower o f j)) (power_one x) ∙ e)
  tower_up f x j (suc i) e = rw add-suc (ap (eval o (tower o f (suc (j + i)))) (power_twice x i) ∙ root_down o L (tower o f (j + i)) (power o x (2 ^ i)) (tower_up f x j i e))

  module _ (inv : Invertible o) (two : o.plus o.unit o.unit ≢ o.nought) where
    -- a root of multiplicity 2 or more stays one
    pub tower_multiple : (f : List o.V) (x : o.V) (j i : ℕ) → x ≢ o.nought → eval o (tower o f j) x ≡ o.nought → slope o (tower o f j) x ≡ o.nought
        → slope o (tower o f (j + i)) (power o x (2 ^ i)) ≡ o.nought
    tower_multiple f x j zero ne e s = rw add-zero (ap (slope o (tower o f j)) (power_one x) ∙ s)
    tower_multiple f x j (suc i) ne e s =
        rw add-suc (ap (slope o (tower o f (suc (j + i)))) (power_twice x i)
        ∙ root_multiple o L inv two (tower o f (j + i)) (power o x (2 ^ i)) (tower_up f x j i e) (power_nonzero o L inv x (2 ^ i) ne) (inl (tower_multiple f x j i ne e s)))

    module _ (F : List (o.V × o.V)) (start : (x : o.V) → eval o (epsilons F) x ≡ slope o (reals F) x) where
      f : List o.V
      f = reals F

      level : (k : ℕ) → reals (tower (dual o) F k) ≡ tower o (reals F) k
      level k = map-tower (dual o) o (λ x. x.0) (real_hom o L) F k

      -- the one root of f whose power is b, and b's tangent by which it is computed
      pub record Origin (k : ℕ) (b : o.V) : Type 0 where
        pub root : o.V
        pub vanishes : eval o (reals F) root ≡ o.nought
        pub powers : power o root (2 ^ k) ≡ b
        pub once : (x : o.V) → eval o (reals F) x ≡ o.nought → power o x (2 ^ k) ≡ b → x ≡ root
        pub tangent : eval o (epsilons (tower (dual o) F k)) b ≢ o.nought
        pub formula : o.times root (eval o (epsilons (tower (dual o) F k)) b) ≡ o.times (number o (2 ^ k)) (o.times b (slope o (tower o (reals F) k) b))

      pub origin : (k : ℕ) (b : o.V) → b ≢ o.nought → eval o (tower o (reals F) k) b ≡ o.nought → slope o (tower o (reals F) k) b ≢ o.nought → Origin k b
      origin zero b ne e s = record {
        root = b;
        vanishes = e;
        powers = power_one b;
        once = λ x _ p. sym (power_one x) ∙ p;
        tangent = λ z. s (sym (start b) ∙ z);
        formula = ap (o.times b) (start b) ∙ solve o L (b ∷ slope o (reals F) b ∷ []) (v 0 ⊗ v 1) ((𝟏 ⊕ 𝟎) ⊗ (v 0 ⊗ v 1)) refl;
      }
      origin (suc k) b ne e s = above (origin k c c_nonzero l.vanishes l.simple)
        where
          g : List o.V
          g = tower o (reals F) k

          l : Lifted o L inv two (tower o (reals F) k) b
          l = root_lift o L inv two (tower o (reals F) k) b ne e s

          c : o.V
          c = l.root

          c_nonzero : c ≢ o.nought
          c_nonzero z = ne (sym l.squares ∙ ap (o.times c) z ∙ times-nought o L c)

          t : o.V → o.V
          t x = eval o (epsilons (tower (dual o) F k)) x

          sg : o.V
          sg = turn o (tower o (reals F) k)

          other : o.V
          other = eval o (tower o (reals F) k) (o.minus c)

          signs : turn o (tower (dual o) F k) ≡ turn o (tower o (reals F) k)
          signs = ap (λ n. sign o (n - 1)) (sym (length-map (tower (dual o) F k) (λ x. x.0)) ∙ ap length (level k))

          next : eval o (epsilons (tower (dual o) F (suc k))) b ≡ o.times sg (o.times (t c) other)
          next = ap (eval o (epsilons (tower (dual o) F (suc k)))) (sym l.squares)
              ∙ tangent_step o L (tower (dual o) F k) c
              ∙ ap₂ (λ r p. o.times r (o.plus (o.times (eval o p c) (t (o.minus c))) (o.times (t c) (eval o p (o.minus c))))) signs (level k)
              ∙ solve₁ o L (sg ∷ eval o g c ∷ t (o.minus c) ∷ t c ∷ other ∷ []) (v 0 ⊗ (v 1 ⊗ v 2 ⊕ v 3 ⊗ v 4)) (v 0 ⊗ (v 3 ⊗ v 4)) (v 0 ⊗ v 2) (v 1) 𝟎 l.vanishes refl

          sg_nonzero : sg ≢ o.nought
          sg_nonzero z = two (solve₂ o L (sg ∷ []) (𝟏 ⊕ 𝟏) 𝟎 (⊖ (𝟏 ⊕ 𝟏)) (v 0 ⊗ v 0) 𝟏 (sign_square o L (length g - 1)) ((𝟏 ⊕ 𝟏) ⊗ v 0) (v 0) 𝟎 z refl)

          steep : o.times (o.plus c c) (slope o (transform o g) b) ≡ o.times sg (o.times (slope o g c) other)
          steep = ap (λ x. o.times (o.plus c c) (slope o (transform o g) x)) (sym l.squares)
              ∙ slope_step o L g c
              ∙ solve₁ o L (sg ∷ slope o g c ∷ other ∷ eval o g c ∷ slope o g (o.minus c) ∷ []) (v 0 ⊗ (v 1 ⊗ v 2 ⊕ ⊖ (v 3 ⊗ v 4))) (v 0 ⊗ (v 1 ⊗ v 2)) (⊖ (v 0 ⊗ v 4)) (v 3) 𝟎 l.vanishes refl

          above : Origin k c → Origin (suc k) b
          above w = record {
            root = w.root;
            vanishes = w.vanishes;
            powers = power_twice w.root k ∙ ap (λ x. o.times x x) w.powers ∙ l.squares;
            once = λ x ex p. w.once x ex (lift_once o L inv two g b l (power o x (2 ^ k)) (tower_down (reals F) x k ex) (sym (power_twice x k) ∙ p));
            tangent = λ z. times_nonzero o L inv sg (o.times (t c) other) sg_nonzero (times_nonzero o L inv (t c) other w.tangent l.alone) (sym next ∙ z);
            formula =
                let S = slope o (transform o g) b in
                ap (o.times w.root) next
                ∙ solve₂ o L (w.root ∷ sg ∷ t c ∷ other ∷ number o (2 ^ k) ∷ c ∷ slope o g c ∷ S ∷ [])
                (v 0 ⊗ (v 1 ⊗ (v 2 ⊗ v 3))) ((v 4 ⊕ v 4) ⊗ ((v 5 ⊗ v 5) ⊗ v 7))
                (v 1 ⊗ v 3) (v 0 ⊗ v 2) (v 4 ⊗ (v 5 ⊗ v 6)) w.formula
                (⊖ (v 4 ⊗ v 5)) ((v 5 ⊕ v 5) ⊗ v 7) (v 1 ⊗ (v 6 ⊗ v 3)) steep refl
                ∙ ap₂ (λ n x. o.times n (o.times x S)) (sym (ap (number o) (twice_power k) ∙ number-add o L (2 ^ k) (2 ^ k))) l.squares;
          }
