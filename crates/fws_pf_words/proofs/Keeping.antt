-- The words of a value, which are kept while they aren't too large.
use Rattle.std.proofs.Common.{◌≡◌, ℕ, ◌+◌, ◌<◌, ◌≤◌, Bool, true, false, cond, nat_lt, Option, None, Some, Result, Ok, Err, List, [], ◌∷◌, ◌++◌, length, refl, sym, ap, subst, ◌∙◌, append_assoc, arith}
use Rattle.std.proofs.lemmas.Bool.Decides.{nat_tests}
use Rattle.std.proofs.lemmas.List.{append-nil}
use Rattle.std.specs.Option.{ok_or}
use Rattle.fws_num.specs.declared.word.Word.{Word}
use Rattle.fws_num.specs.Words.{is_sound}
use Rattle.fws_net.specs.declared.cause.Cause.{Cause}
use Rattle.fws_net.specs.declared.cause.Cause.TheVariants.{Expand, Syntax}
use Rattle.fws_net.specs.Causes.{checked, judged, unless}
use Rattle.fws_net.specs.declared.answer.LineFault.{LineFault}
use Rattle.fws_net.specs.declared.answer.LineFault.TheVariants as faults
use Rattle.fws_net.specs.Reading.{and_then, CauseGiven, FaultGiven}
use Rattle.fws_pf.specs.declared.macros.Macro.{Macro}
use Rattle.fws_pf.specs.Macros.{is_too_large, meant, size_with_blanks, value_checks, value_defined, value_read, value_words, with_words}
use Rattle.fws_pf_words.specs.Kept.{kept, kept_read, kept_words, with_more, with_word}

-- Sizes

size_behind : (vs : List Word) (w : Word) → size_with_blanks (vs ++ w ∷ []) ≡ size_with_blanks vs + 1 + length w.text
size_behind [] w = omega arith
size_behind (v ∷ vs) w = let h = size_behind vs w in omega arith

larger : (vs : List Word) (w : Word) → is_too_large vs ≡ true → is_too_large (vs ++ w ∷ []) ≡ true
larger vs w h = let e = size_behind vs w in grind (arith, nat_tests)

kept_word : (b : Bool) (vs : List Word) (w : Word) → is_too_large vs ≡ b → with_word (kept vs) w ≡ kept (vs ++ w ∷ [])
kept_word true vs w e = rw (e, larger vs w e) refl
kept_word false vs w e = rw e refl

kept_more : (vs more : List Word) → with_more (kept vs) more ≡ kept (vs ++ more)
kept_more vs [] = ap kept (sym (append-nil vs))
kept_more vs (w ∷ ws) =
    ap (λ k. with_more k ws) (kept_word (is_too_large vs) vs w refl) ∙ kept_more (vs ++ w ∷ []) ws ∙ ap kept (append_assoc vs (w ∷ []) ws)

-- What a store of words holds

abbrev pub held : ℕ → List Word → Option (List Word)
held size ws = cond (nat_lt 65537 size) None (Some ws)

held_some : (old : Option (List Word)) (ws : List Word) (size : ℕ) → held size ws ≡ old → size ≤ 65537 → Some ws ≡ old
held_some old ws size view h =
    let small : nat_lt 65537 size ≡ false = grind (arith, nat_tests) in
    (sym (ap (λ b. cond b None (Some ws)) small)) ∙ view

pub word_held : (old : Option (List Word)) (ws : List Word) (w : Word) (size new : ℕ) → held size ws ≡ old → (nat_lt 65537 size ≡ false → size ≡ size_with_blanks ws)
    → size ≤ 65537 → new ≡ size + 1 + length w.text → with_word old w ≡ held new (ws ++ w ∷ [])
word_held old ws w size new view counted h n =
    let small : nat_lt 65537 size ≡ false = grind (arith, nat_tests) in
    let e = size_behind ws w in
    let k = counted small in
    let same : size_with_blanks (ws ++ w ∷ []) ≡ new = omega arith in
    sym (ap (λ o. with_word o w) (held_some old ws size view h)) ∙ ap (λ s. cond (nat_lt 65537 s) None (Some (ws ++ w ∷ []))) same

pub word_dropped : (old : Option (List Word)) (ws left : List Word) (w : Word) (size new : ℕ) → held size ws ≡ old → (nat_lt 65537 size ≡ false → size ≡ size_with_blanks ws)
    → size ≤ 65537 → new ≡ size + 1 + length w.text → 65537 < new → held new left ≡ with_word old w
word_dropped old ws left w size new view counted h n k =
    let large : nat_lt 65537 new ≡ true = grind (arith, nat_tests) in
    ap (λ b. cond b None (Some left)) large
    ∙ sym (word_held old ws w size new view counted h n ∙ ap (λ b. cond b None (Some (ws ++ w ∷ []))) large)

pub word_counted : (ws : List Word) (w : Word) (size new : ℕ) → (nat_lt 65537 size ≡ false → size ≡ size_with_blanks ws) → size ≤ 65537
    → new ≡ size + 1 + length w.text → new ≡ size_with_blanks (ws ++ w ∷ [])
word_counted ws w size new counted h n =
    let small : nat_lt 65537 size ≡ false = grind (arith, nat_tests) in
    let e = size_behind ws w in
    let k = counted small in
    omega arith

-- What is kept is what a value has

abbrev keeping : Result (List Word) Cause → Result (Option (List Word)) Cause
keeping r = and_then r (λ v. Ok (kept v))

words_next : (j : Result (List Word) Cause) (vs ws : List Word) → ((more : List Word) → keeping (with_words (vs ++ more) ws) ≡ kept_words (kept (vs ++ more)) ws)
    → keeping (and_then j (λ more. with_words (vs ++ more) ws)) ≡ and_then j (λ more. kept_words (with_more (kept vs) more) ws)
words_next (Ok more) vs ws h = h more ∙ ap (λ k. kept_words k ws) (sym (kept_more vs more))
words_next (Err cause) vs ws h = refl

same_words : (ws vs : List Word) → keeping (with_words vs ws) ≡ kept_words (kept vs) ws
same_words [] vs = refl
same_words (w ∷ ws) vs = words_next (judged w (value_words w)) vs ws (λ more. same_words ws (vs ++ more))

judged_words : (b : Bool) (m : Result (List Word) Cause) (vs : List Word)
    → keeping (cond b (and_then m (with_words vs)) (Err Syntax)) ≡ cond b (and_then m (kept_words (kept vs))) (Err Syntax)
judged_words true (Ok ms) vs = same_words ms vs
judged_words true (Err cause) vs = refl
judged_words false m vs = refl

read_next : (macros : List Macro) (j : Result (List Word) Cause) (k : Result (Option (List Word)) Cause) (ws : List Word) → keeping j ≡ k
    → ((vs : List Word) → keeping (value_read macros vs ws) ≡ kept_read macros (kept vs) ws)
    → keeping (and_then j (λ next. value_read macros next ws)) ≡ and_then k (λ next. kept_read macros next ws)
read_next macros (Ok vs) k ws e h = h vs ∙ ap (λ r. and_then r (λ next. kept_read macros next ws)) e
read_next macros (Err cause) k ws e h = ap (λ r. and_then r (λ next. kept_read macros next ws)) e

same_read : (macros : List Macro) (ws vs : List Word) → keeping (value_read macros vs ws) ≡ kept_read macros (kept vs) ws
same_read macros [] vs = refl
same_read macros (w ∷ ws) vs =
    read_next macros (judged w (and_then (meant macros w) (with_words vs))) (judged w (and_then (meant macros w) (kept_words (kept vs)))) ws
    (judged_words (is_sound w) (meant macros w) vs) (same_read macros ws)

checked_value : (b : Bool) (v : List Word) → ok_or (cond b None (Some v)) Expand ≡ unless (cond b (Some Expand) None) v
checked_value true v = refl
checked_value false v = refl

checked_kept : (r : Result (List Word) Cause) → and_then (keeping r) (λ k. ok_or k Expand) ≡ and_then r (λ v. checked (value_checks v) v)
checked_kept (Ok v) = checked_value (is_too_large v) v
checked_kept (Err cause) = refl

-- the value that words define, by what is kept
defined_kept : (macros : List Macro) (words : List Word) → 0 < length words
    → value_defined macros words ≡ and_then (kept_read macros (Some []) words) (λ k. ok_or k Expand)
defined_kept macros [] h = absurd (omega arith)
defined_kept macros (w ∷ ws) h =
    sym (ap (λ r. and_then r (λ k. ok_or k Expand)) (sym (same_read macros (w ∷ ws) [])) ∙ checked_kept (value_read macros [] (w ∷ ws)))

pub value_given : (macros : List Macro) (words : List Word) (start k : Option (List Word)) (r : Result (List Word) (LineFault Cause)) → 0 < length words → start ≡ Some []
    → kept_read macros start words ≡ Ok k → CauseGiven r (ok_or k Expand) → CauseGiven r (value_defined macros words)
value_given macros words start k r h s e given =
    subst (CauseGiven r)
    (sym (defined_kept macros words h ∙ ap (λ q. and_then q (λ o. ok_or o Expand)) (ap (λ b. kept_read macros b words) (sym s) ∙ e))) given

pub fault_given : (macros : List Macro) (words : List Word) (start : Option (List Word)) (fault : LineFault Cause) → 0 < length words → start ≡ Some []
    → FaultGiven fault (kept_read macros start words) → FaultGiven fault (value_defined macros words)
fault_given macros words start (faults.Bad cause) h s e =
    defined_kept macros words h ∙ ap (λ q. and_then q (λ o. ok_or o Expand)) (ap (λ b. kept_read macros b words) (sym s) ∙ e)
fault_given macros words start faults.Memory h s e = tt

-- Words out of quotes

abbrev pub put_ahead : List Word → Result (List Word) Cause → Result (List Word) Cause
put_ahead ws r = and_then r (λ rest. Ok (ws ++ rest))

pub ahead_next : (ws : List Word) (w : Word) (r : Result (List Word) Cause) → put_ahead (ws ++ w ∷ []) r ≡ put_ahead ws (and_then r (λ rest. Ok (w ∷ rest)))
ahead_next ws w (Ok rest) = ap (λ l. Ok l) (append_assoc ws (w ∷ []) rest)
ahead_next ws w (Err cause) = refl
