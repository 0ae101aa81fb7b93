-- Tests over the field of 17 elements, and that where they pass the definitions hold.
use Rattle.std.proofs.Common.{◌≡◌, ℕ, zero, suc, ◌+◌, ◌*◌, ◌^◌, Bool, true, false, not, ◌&&◌, eqb, ltb, leb, ◌≢◌, ◌↔◌, List, [], ◌∷◌, length, refl, ap, ◌∙◌, arith}
use Rattle.std.proofs.lemmas.Bool.{both_ways, not-true, not_from_false, eqb-true, ne_eqb, eqb-false, leb-true, le-leb, ltb-true, lt-ltb, and_parts, and_from}
use Rattle.algebra.specs.Rings.{Lawful, power}
use Rattle.algebra.specs.Polynomials.{eval}
use Rattle.algebra.specs.Graeffe.{tower}
use Rattle.fields.specs.Seventeen.{positive}
use Rattle.fields.specs.ResiduesLemmas.{lawful}
use Rattle.fields.specs.Tables.{all, all-below, pairs_below}
use Rattle.fields.specs.Field17.{is_coded}
use Rattle.roots.specs.Lists.{In}
use Rattle.roots.specs.Division.{Multiplicity, quotient}
use Rattle.roots.specs.Slopes.{slope}
use Rattle.roots.specs.Roots.{Root, Simple, Lift, Repeated, Trials}
use Rattle.roots.proofs.Multiplicities.{nonroot_multiplicity, root_multiplicity, repeated_from, repeated_root, simple_root}
use Rattle.figures.specs.Figures.{R17, F17, o17, value}
use Rattle.figures.proofs.Tests.{implies, implied, any, any_some, some_any, each, each_in, numbers, same_pair, pairs, among, among_in, differ, differ_distinct}

pub laws : Lawful o17
laws = lawful 17 positive

-- equal lists of values
abbrev pub alike_lists : List o17.V → List o17.V → Bool
alike_lists [] [] = true
alike_lists [] (b ∷ g) = false
alike_lists (a ∷ f) [] = false
alike_lists (a ∷ f) (b ∷ g) = o17.alike a b && alike_lists f g

pub lists_same : (f g : List o17.V) → alike_lists f g ≡ true → f ≡ g
lists_same [] [] e = refl
lists_same [] (b ∷ g) e = cc
lists_same (a ∷ f) [] e = cc
lists_same (a ∷ f) (b ∷ g) e =
    let p = and_parts (o17.alike a b) (alike_lists f g) e in
    let here = laws.alike_same a b p.0 in
    let there = lists_same f g p.1 in
    cc

-- zero

abbrev pub vanishes : o17.V → Bool
vanishes x = o17.alike x o17.nought

is_zero : (x : o17.V) → vanishes x ≡ true → x ≡ o17.nought
is_zero x = laws.alike_same x o17.nought

zero-vanishes : (x : o17.V) → x ≡ o17.nought → vanishes x ≡ true
zero-vanishes x = laws.same_alike x o17.nought

pub not_zero : (x : o17.V) → not (vanishes x) ≡ true → x ≢ o17.nought
not_zero x e z = both_ways (vanishes x) (not-true (vanishes x) e) (zero-vanishes x z)

-- roots

abbrev pub rooted : List o17.V → ℕ → Bool
rooted f c = ltb c 17 && vanishes (eval o17 f (value c))

pub rooted_root : (f : List o17.V) (c : ℕ) → rooted f c ≡ true → Root R17 F17 f c
rooted_root f c e =
    let p = and_parts (ltb c 17) (vanishes (eval o17 f (value c))) e in
    (ltb-true c 17 p.0, is_zero (eval o17 f (value c)) p.1)

pub root_rooted : (f : List o17.V) (c : ℕ) → Root R17 F17 f c → rooted f c ≡ true
root_rooted f c r = and_from (ltb c 17) (vanishes (eval o17 f (value c))) (lt-ltb c 17 r.0) (zero-vanishes (eval o17 f (value c)) r.1)

-- the codes are roots, and each root is among them
abbrev pub all_rooted : List o17.V → List ℕ → Bool
all_rooted f cs = each (rooted f) cs && all (λ c. implies (rooted f c) (among eqb c cs)) 17

pub all_roots : (f : List o17.V) (cs : List ℕ) → all_rooted f cs ≡ true → (c : ℕ) → In c cs ↔ Root R17 F17 f c
all_roots f cs e c =
    let p = and_parts (each (rooted f) cs) (all (λ c. implies (rooted f c) (among eqb c cs)) 17) e in (
      λ i. rooted_root f c (each_in (rooted f) cs p.0 c i),
      λ r. among_in eqb numbers c cs (implied (rooted f c) (among eqb c cs) (all-below (λ c. implies (rooted f c) (among eqb c cs)) 17 p.1 c r.0) (root_rooted f c r)),
    )

-- multiplicities

abbrev pub times_rooted : List o17.V → o17.V → ℕ → Bool
times_rooted f a zero = not (vanishes (eval o17 f a))
times_rooted f a (suc e) = vanishes (eval o17 f a) && times_rooted (quotient o17 a f) a e

pub times_multiplicity : (f : List o17.V) (a : o17.V) (e : ℕ) → times_rooted f a e ≡ true → Multiplicity o17 f a e
times_multiplicity f a zero h = nonroot_multiplicity o17 laws a f (not_zero (eval o17 f a) h)
times_multiplicity f a (suc e) h =
    let p = and_parts (vanishes (eval o17 f a)) (times_rooted (quotient o17 a f) a e) h in
    root_multiplicity o17 laws a e f (is_zero (eval o17 f a) p.0) (times_multiplicity (quotient o17 a f) a e p.1)

abbrev pub each_times : List o17.V → List (ℕ × ℕ) → Bool
each_times f rs = each (λ r. times_rooted f (value r.0) r.1) rs

pub each_multiplicity : (f : List o17.V) (rs : List (ℕ × ℕ)) → each_times f rs ≡ true
    → (r : ℕ × ℕ) → In r rs → Multiplicity o17 f (value r.0) r.1
each_multiplicity f rs e r i = times_multiplicity f (value r.0) r.1 (each_in (λ r. times_rooted f (value r.0) r.1) rs e r i)

-- the powers 2^k

abbrev pub powers_to : ℕ → o17.V → ℕ → Bool
powers_to k b x = o17.alike (power o17 (value x) (2 ^ k)) b

abbrev pub powered : ℕ → o17.V → Bool
powered k b = any (powers_to k b) 17

powered_some : (k : ℕ) (b : o17.V) → powered k b ≡ true → (x : o17.V) × (power o17 x (2 ^ k) ≡ b)
powered_some k b e =
    let p = any_some (powers_to k b) 17 e in
    (value p.0, laws.alike_same (power o17 (value p.0) (2 ^ k)) b p.1)

some_powered : (k : ℕ) (b x : o17.V) → power o17 x (2 ^ k) ≡ b → powered k b ≡ true
some_powered k b x e =
    let p = is_coded.every x in
    some_any (powers_to k b) 17 p.0 p.1 (laws.same_alike (power o17 (value p.0) (2 ^ k)) b (ap (λ y. power o17 y (2 ^ k)) p.2 ∙ e))

-- repeated roots of the levels

abbrev pub doubled : List o17.V → o17.V → Bool
doubled f a = vanishes (eval o17 f a) && vanishes (slope o17 f a)

abbrev pub placed : ℕ × ℕ → Bool
placed p = (leb 1 p.0 && leb p.0 4) && (ltb p.1 17 && not (eqb p.1 0))

abbrev pub met : List o17.V → ℕ × ℕ → Bool
met f p = powered p.0 (value p.1) && doubled (tower o17 f p.0) (value p.1)

abbrev pub repeats : List o17.V → ℕ × ℕ → Bool
repeats f p = placed p && met f p

repeats_repeated : (f : List o17.V) (p : ℕ × ℕ) → repeats f p ≡ true → Repeated R17 F17 f p
repeats_repeated f p e =
    let k = p.0 in
    let c = p.1 in
    let a = value c in
    let g = tower o17 f k in
    let both = and_parts (placed p) (met f p) e in
    let place = and_parts (leb 1 k && leb k 4) (ltb c 17 && not (eqb c 0)) both.0 in
    let level = and_parts (leb 1 k) (leb k 4) place.0 in
    let code = and_parts (ltb c 17) (not (eqb c 0)) place.1 in
    let meets = and_parts (powered k a) (doubled g a) both.1 in
    let twice = and_parts (vanishes (eval o17 g a)) (vanishes (slope o17 g a)) meets.1 in
    record {
      low = leb-true 1 k level.0;
      high = leb-true k 4 level.1;
      code = ltb-true c 17 code.0;
      nonzero = eqb-false c 0 (not-true (eqb c 0) code.1);
      powered = powered_some k a meets.0;
      multiple = repeated_from o17 laws a g (is_zero (eval o17 g a) twice.0) (is_zero (slope o17 g a) twice.1);
    }

repeated_repeats : (f : List o17.V) (p : ℕ × ℕ) → Repeated R17 F17 f p → repeats f p ≡ true
repeated_repeats f p r =
    let k = p.0 in
    let c = p.1 in
    let a = value c in
    let g = tower o17 f k in
    let twice = repeated_root o17 laws a g r.multiple in
    and_from (placed p) (met f p)
    (and_from (leb 1 k && leb k 4) (ltb c 17 && not (eqb c 0)) (and_from (leb 1 k) (leb k 4) (le-leb 1 k r.low) (le-leb k 4 r.high))
    (and_from (ltb c 17) (not (eqb c 0)) (lt-ltb c 17 r.code) (not_from_false (eqb c 0) (ne_eqb c 0 r.nonzero))))
    (and_from (powered k a) (doubled g a) (some_powered k a r.powered.0 r.powered.1)
    (and_from (vanishes (eval o17 g a)) (vanishes (slope o17 g a)) (zero-vanishes (eval o17 g a) twice.0) (zero-vanishes (slope o17 g a) twice.1)))

-- no repeated root of a level is left out
abbrev pub missed : List o17.V → List (ℕ × ℕ) → ℕ → ℕ → Bool
missed f ps k c = implies (repeats f (k, c)) (among same_pair (k, c) ps)

abbrev pub all_repeats : List o17.V → List (ℕ × ℕ) → Bool
all_repeats f ps = each (repeats f) ps && all (λ k. all (missed f ps k) 17) 5

pub trials_from : (f : List o17.V) (ps : List (ℕ × ℕ)) → differ same_pair ps ≡ true → all_repeats f ps ≡ true → Trials R17 F17 f (1 + 2 * length ps)
trials_from f ps d e =
    let p = and_parts (each (repeats f) ps) (all (λ k. all (missed f ps k) 17) 5) e in (
      ps,
      differ_distinct same_pair pairs ps d,
      λ q. (
        λ i. repeats_repeated f q (each_in (repeats f) ps p.0 q i),
        λ r. among_in same_pair pairs q ps (implied (repeats f q) (among same_pair q ps) (pairs_below (missed f ps) 5 17 p.1 q.0 q.1 (let h = r.high in omega arith) r.code) (repeated_repeats f q r)),
      ),
      refl,
    )

-- lifts

abbrev pub simple_test : List o17.V → ℕ → o17.V → Bool
simple_test f k b = not (vanishes b) && times_rooted (tower o17 f k) b 1

simple_from : (f : List o17.V) (k : ℕ) (b : o17.V) → simple_test f k b ≡ true → Simple R17 F17 f k b
simple_from f k b e =
    let p = and_parts (not (vanishes b)) (times_rooted (tower o17 f k) b 1) e in
    (not_zero b p.0, times_multiplicity (tower o17 f k) b 1 p.1)

-- a root that has b for its power 2^k
abbrev pub under : List o17.V → ℕ → o17.V → ℕ → Bool
under f k b x = rooted f x && powers_to k b x

pub lift_from : (f : List o17.V) (k : ℕ) (b : o17.V) (c : ℕ) → simple_test f k b ≡ true → under f k b c ≡ true
    → all (λ x. implies (under f k b x) (eqb x c)) 17 ≡ true → Lift R17 F17 f k b c
lift_from f k b c s h e =
    let p = and_parts (rooted f c) (powers_to k b c) h in
    record {
      simple = simple_from f k b s;
      root = rooted_root f c p.0;
      powers = laws.alike_same (power o17 (value c) (2 ^ k)) b p.1;
      once = λ x r w. eqb-true x c (implied (under f k b x) (eqb x c) (all-below (λ x. implies (under f k b x) (eqb x c)) 17 e x r.0)
          (and_from (rooted f x) (powers_to k b x) (root_rooted f x r) (laws.same_alike (power o17 (value x) (2 ^ k)) b w)));
    }

-- a repeated root is none to lift
pub not_simple : (f : List o17.V) (k : ℕ) (b : o17.V) → vanishes (slope o17 (tower o17 f k) b) ≡ true → Simple R17 F17 f k b → ⊥
not_simple f k b e s = (simple_root o17 laws b (tower o17 f k) s.1).1 (is_zero (slope o17 (tower o17 f k) b) e)
