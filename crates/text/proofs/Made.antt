-- A list made of another, element by element, by a chain of calls.
use Rattle.std.proofs.Common.{◌≡◌, List, [], ◌∷◌, length, None, Ok, Err, Result, IfOk, vec_items, vec_len, Vec, Bor, sym, subst}
use Rattle.std.proofs.iter.Yields.{fronts}
use Rattle.std.proofs.lemmas.Iterator.{maps, IsCollectResult}
use Rattle.std.proofs.lemmas.List.{nil_from_length}
use Rattle.std.specs.Bool.{⊤}
use Rattle.std.specs.Fn.{Called}
use Rattle.std.specs.Iterator.{Yields, DrainsIf}
use Rattle.std.specs.Iterator.Adapters.{map_source, map_callee}
use Rattle.std.specs.List.{AllZip}
use Rattle.std.specs.Slice.Iter.{iter_rest}
use Rattle.std.specs.declared.iter.Map.{Map}
use Rattle.std.specs.declared.slice.Iter.{Iter}
use denote.Param.Members.{Mut}

-- the closure f makes of each element x what R relates to it
abbrev pub Makes : {A B F : Type 0} → Mut F (Bor A × Unit {0}) B → (A → B → Type 0) → F → Type 0
Makes {A} {B} {F} g R f = (x : Bor A) (y : B) (q : F) → Called g f (x, tt) y q → (q ≡ f) × R x.now y

module _ {A B F : Type 0} {g : Mut F (Bor A × Unit {0}) B} (R : A → B → Type 0) where
  made : (ys : List B) (s t u : Map (Iter A) F) → Makes g R (map_callee s) → Yields (maps fronts g) s ys t → maps fronts g t None u → AllZip R (iter_rest (map_source s)) ys
  made [] s t u each same none = subst (λ xs. AllZip R xs []) (sym (nil_from_length (iter_rest (map_source s)) (rw same none.0.0))) tt
  made (y ∷ ys) s t u each step none =
      let turn = each step.1.0 y (map_callee step.0) step.1.2 in
      subst (λ xs. AllZip R xs (y ∷ ys)) (sym step.1.1) (turn.1, made ys step.0 t u (subst (Makes g R) (sym turn.0) each) step.2 none)

  pub gathered : {Z : Type 0} {f : F} {xs : List A} (s : Map (Iter A) F) (v : Vec B Z) → (ys : List B) × DrainsIf (maps fronts g) ⊤ s ys × ((vec_items v ≡ ys) × (vec_len v ≡ length ys)) → iter_rest (map_source s) ≡ xs → map_callee s ≡ f → Makes g R f → AllZip R xs (vec_items v)
  gathered {xs = xs} s v ran es ef each =
      let last = ran.1.2 tt in
      subst (λ ys. AllZip R xs ys) (sym ran.2.0) (subst (λ ws. AllZip R ws ran.0) es (made ran.0 s ran.1.0 last.0 (subst (Makes g R) (sym ef) each) ran.1.1 last.1))

  pub collected : {Z E : Type 0} {f : F} {xs : List A} (s : Map (Iter A) F) (r : Result (Vec B Z) E) → IsCollectResult (maps fronts g) s r → iter_rest (map_source s) ≡ xs → map_callee s ≡ f → Makes g R f → IfOk r (λ v. AllZip R xs (vec_items v))
  collected s (Ok v) ran es ef each = gathered s v ran es ef each
  collected s (Err e) ran es ef each = tt
