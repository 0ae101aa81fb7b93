-- The words of a text, one after another.
use Rattle.std.proofs.Common.{◌≡◌, ℕ, List, [], ◌∷◌, map, None, Ok, Err, Result, IfOk, Vec, Bor, vec_items, sym, subst}
use Rattle.std.proofs.lemmas.Iterator.{IsCollectResult}
use Rattle.std.specs.Iterator.{Yields}
use Rattle.std.specs.Str.Iter.{split_whitespace_rest, split_whitespace_steps}
use Rattle.std.specs.declared.str.SplitWhitespace.{SplitWhitespace}
use Rattle.text.specs.Words.{Words}

-- the words that `split_whitespace` gives up to its end
yielded : (ws : List (Bor (List ℕ))) (s t u : SplitWhitespace) → Yields split_whitespace_steps s ws t → split_whitespace_steps t None u → Words (split_whitespace_rest s) (map (λ w. w.now) ws)
yielded [] s t u same none = rw same none.1
yielded (w ∷ ws) s t u step none =
    let cut = step.1 in
    (split_whitespace_rest step.0, record { gap = cut.0; cut = cut.1; some = cut.2; blank = cut.3; solid = cut.4; ends = cut.5 }, yielded ws step.0 t u step.2 none)

pub words_of : {Z E : Type 0} (line : List ℕ) (s : SplitWhitespace) (r : Result (Vec (Bor (List ℕ)) Z) E) → split_whitespace_rest s ≡ line → IsCollectResult split_whitespace_steps s r → IfOk r (λ v. Words line (map (λ w. w.now) (vec_items v)))
words_of line s (Ok v) es ran =
    let last = ran.1.2 tt in
    subst (λ ws. Words line (map (λ w. w.now) ws)) (sym ran.2.0) (subst (λ l. Words l (map (λ w. w.now) ran.0)) es (yielded ran.0 s ran.1.0 last.0 ran.1.1 last.1))
words_of line s (Err e) es ran = tt
