-- The residues modulo 469762049 are a field, with the primitive element 3.
use Rattle.std.specs.Prelude.{◌≡◌, ℕ, zero, suc, ◌+◌, ◌-◌, ◌*◌, ◌/◌, ◌%◌, ◌^◌, ◌<◌, ◌≤◌, ◌≢◌, refl}
use Rattle.std.proofs.Common.{sym, ap, ◌∙◌, arith, lit<, lit≤}
use Rattle.algebra.specs.Rings.{Lawful, power}
use Rattle.algebra.specs.Fields.{Bounded, Tower, Coded, Inverse, Invertible, Primitive}
use Rattle.fields.specs.Residues.{Residue, rest}
use Rattle.fields.specs.Shop.{shop_order, shop_pos, shop, three}
use Rattle.fields.specs.ResiduesLemmas.{residue_same, lawful, coded, told}
use Rattle.fields.specs.Orders.{squares, whole-power, power_of_unit, squares_of_unit, halves, multiples}
use Rattle.fields.specs.Cyclic.{primitive, inverse_power, invertible}

-- the order, as a number
pub shop_is : shop_order ≡ 469762049
unfolding shop_order
shop_is = refl

-- a commutative ring
pub shop_lawful : Lawful shop
shop_lawful = lawful shop_order shop_pos

-- its size
pub shop_bounded : Bounded shop_order
shop_bounded = record { low = rw shop_is (lit≤ tt); high = rw shop_is (lit< tt) }

-- the order less one is 7 times two to the 26
pub shop-tower : Tower shop_order 7 26
shop-tower = record { splits = shop_is; odd = refl; small = lit≤ tt; tall = lit≤ tt }

-- its codes
pub shop_coded : Coded shop shop_order (told shop_order shop_pos)
shop_coded = coded shop_order shop_pos (rw shop_is (lit< tt))

-- three to the seventh
abbrev seventh : Residue shop_order
seventh = rest shop_order shop_pos 2187

seventh_code : (power shop three 7).code ≡ seventh.code
unfolding shop_order
seventh_code = refl

seventh_is : power shop three 7 ≡ seventh
seventh_is = residue_same (power shop three 7) seventh seventh_code

-- squared 25 times, it is the negative of one
seventh_squares_code : (squares shop seventh 25).code ≡ (shop.minus shop.unit).code
unfolding shop_order
seventh_squares_code = refl

seventh-squares : squares shop seventh 25 ≡ shop.minus shop.unit
seventh-squares = residue_same (squares shop seventh 25) (shop.minus shop.unit) seventh_squares_code

-- three squared 26 times
abbrev high : Residue shop_order
high = rest shop_order shop_pos 132422475

high_code : (squares shop three 26).code ≡ high.code
unfolding shop_order
high_code = refl

high_is : squares shop three 26 ≡ high
high_is = residue_same (squares shop three 26) high high_code

-- its seventh power is one
high_whole_code : (power shop high 7).code ≡ shop.unit.code
unfolding shop_order
high_whole_code = refl

high-whole : power shop high 7 ≡ shop.unit
high-whole = residue_same (power shop high 7) shop.unit high_whole_code

unit_code : shop.unit.code ≡ 1
unfolding shop_order
unit_code = refl

-- codes that differ are of residues that differ
differ : (x : Residue shop_order) (c : ℕ) → x.code ≡ c → c ≢ 1 → x ≢ shop.unit
differ x c e n p = n (sym e ∙ ap (λ (t : Residue shop_order). t.code) p ∙ unit_code)

-- and no lower one is
high_1 : (power shop high 1).code ≡ 132422475
unfolding shop_order
high_1 = refl

high_2 : (power shop high 2).code ≡ 59920349
unfolding shop_order
high_2 = refl

high_3 : (power shop high 3).code ≡ 353007581
unfolding shop_order
high_3 = refl

high_4 : (power shop high 4).code ≡ 42566872
unfolding shop_order
high_4 = refl

high_5 : (power shop high 5).code ≡ 425827088
unfolding shop_order
high_5 = refl

high_6 : (power shop high 6).code ≡ 395541781
unfolding shop_order
high_6 = refl

high_none : (r : ℕ) → 0 < r → r < 7 → power shop high r ≢ shop.unit
high_none zero l h = absurd (omega arith)
high_none (suc zero) l h = differ (power shop high 1) 132422475 high_1 (omega arith)
high_none (suc (suc zero)) l h = differ (power shop high 2) 59920349 high_2 (omega arith)
high_none (suc (suc (suc zero))) l h = differ (power shop high 3) 353007581 high_3 (omega arith)
high_none (suc (suc (suc (suc zero)))) l h = differ (power shop high 4) 42566872 high_4 (omega arith)
high_none (suc (suc (suc (suc (suc zero))))) l h = differ (power shop high 5) 425827088 high_5 (omega arith)
high_none (suc (suc (suc (suc (suc (suc zero)))))) l h = differ (power shop high 6) 395541781 high_6 (omega arith)
high_none (suc (suc (suc (suc (suc (suc (suc r))))))) l h = absurd (omega arith)

minus_code : (shop.minus shop.unit).code ≡ 469762048
unfolding shop_order
minus_code = refl

-- the negative of one is not one
minus_apart : shop.minus shop.unit ≢ shop.unit
minus_apart = differ (shop.minus shop.unit) 469762048 minus_code (omega arith)

below-order : shop_order - 1 ≡ 7 * 2 ^ 26
below-order = ap (λ (n : ℕ). n - 1) shop_is

-- three to the order less one is one
pub three-whole : power shop three (shop_order - 1) ≡ shop.unit
three-whole = whole-power shop shop_lawful three 7 26 (shop_order - 1) below-order high high_is high-whole

-- seven divides four times c, below seven, only at zero
fourfold : (c k : ℕ) → c < 7 → (7 * k + 4 * c) % 7 ≡ 0 → c ≡ 0
fourfold zero k l r = refl
fourfold (suc zero) k l r = omega arith
fourfold (suc (suc zero)) k l r = omega arith
fourfold (suc (suc (suc zero))) k l r = omega arith
fourfold (suc (suc (suc (suc zero)))) k l r = omega arith
fourfold (suc (suc (suc (suc (suc zero))))) k l r = omega arith
fourfold (suc (suc (suc (suc (suc (suc zero)))))) k l r = omega arith
fourfold (suc (suc (suc (suc (suc (suc (suc c))))))) k l r = omega arith

-- a multiple of two to the 26 and of 7 is one of the product
both_multiples : (e a : ℕ) → e ≡ a * 2 ^ 26 → e % 7 ≡ 0 → e ≡ a / 7 * (shop_order - 1)
both_multiples e a p r =
    let split : e ≡ 7 * (a / 7 * 67108864 + 9586980 * (a % 7)) + 4 * (a % 7) = omega arith in
    let c : a % 7 ≡ 0 = fourfold (a % 7) (a / 7 * 67108864 + 9586980 * (a % 7)) (omega arith) (ap (λ (n : ℕ). n % 7) (sym split) ∙ r) in
    rw below-order (omega arith)

-- the powers of three that are one are those to multiples of the order less one
pub three_least : (e : ℕ) → power shop three e ≡ shop.unit → (a : ℕ) × (e ≡ a * (shop_order - 1))
three_least e p =
    let t = halves shop shop_lawful minus_apart 25 seventh seventh-squares e (ap (λ x. power shop x e) (sym seventh_is) ∙ power_of_unit shop shop_lawful three 7 e p) in
    let r = multiples shop shop_lawful 7 (lit< tt) high high-whole high_none e (ap (λ x. power shop x e) (sym high_is) ∙ squares_of_unit shop shop_lawful three 26 e p) in
    (t.0 / 7, both_multiples e t.0 t.1 r)

shop_big : 3 ≤ shop_order
shop_big = rw shop_is (lit≤ tt)

-- three is a primitive element
pub shop_primitive : Primitive shop shop_order three
shop_primitive = primitive shop_order shop_pos shop_big three three-whole three_least

-- the power to the order less two is the inverse
pub shop_inverse : (x : Residue shop_order) → Inverse shop x (power shop x (shop_order - 2))
shop_inverse = inverse_power shop_order shop_pos shop_big three three-whole three_least

-- each element has an inverse
pub shop_invertible : Invertible shop
shop_invertible = invertible shop_order shop_pos shop_big three three-whole three_least
