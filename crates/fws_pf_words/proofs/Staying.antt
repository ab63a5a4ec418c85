-- Words that a value takes and that don't end it.
use Rattle.std.proofs.Common.{◌≡◌, ℕ, ◌+◌, ◌<◌, ◌≤◌, Bool, Option, None, Some, option_map, option_and_then, Result, Ok, Err, List, [], ◌∷◌, ◌++◌, length, get_or, take, drop, MatchBool, true≢false, cond, true, false, not, ◌&&◌, refl, sym, ap, ◌∙◌, arith}
use Rattle.std.proofs.lemmas.List.{drop-take, length-take, take-append-drop, take-take, take_more}
use Rattle.fws_num.specs.declared.word.Word.{Word}
use Rattle.fws_num.specs.Words.{is_sound}
use Rattle.fws_net.specs.declared.cause.Cause.{Cause}
use Rattle.fws_pf.specs.declared.value_draft.Item.{Item}
use Rattle.fws_pf.specs.declared.value_draft.ValueDraft.{ValueDraft}
use Rattle.fws_pf.specs.Values.{Setting, has_ended, value_step}
use Rattle.fws_pf_words.specs.Fronts.{fronted, going_on, with_front, within, word_within}
use Rattle.fws_pf_words.proofs.Fronting.{value_front}

-- One word more

alone : {X : Type 0} (f : X → Option X) (o : Option X) → ((x : X) → f x ≡ Some x) → option_and_then f o ≡ o
alone f (Some x) h = h x
alone f None h = refl

next_more : (setting : Setting) (ws : List Word) (w : Word) (o : Option ValueDraft)
    → ((d : ValueDraft) → within setting (ws ++ w ∷ []) d ≡ option_and_then (word_within setting w) (within setting ws d))
    → option_and_then (within setting (ws ++ w ∷ [])) o ≡ option_and_then (word_within setting w) (option_and_then (within setting ws) o)
next_more setting ws w (Some d) h = h d
next_more setting ws w None h = refl

word_more : (setting : Setting) (ws : List Word) (w : Word) (d : ValueDraft) → within setting (ws ++ w ∷ []) d ≡ option_and_then (word_within setting w) (within setting ws d)
word_more setting [] w d = alone (within setting []) (word_within setting w d) (λ x. refl)
word_more setting (v ∷ ws) w d = next_more setting ws w (word_within setting v d) (word_more setting ws w)

pub one_further : (setting : Setting) (ws more : List Word) (w : Word) (d e f : ValueDraft) → more ≡ ws ++ w ∷ [] → within setting ws d ≡ Some e
    → word_within setting w e ≡ Some f → within setting more d ≡ Some f
one_further setting ws more w d e f m h k =
    ap (λ l. within setting l d) m ∙ word_more setting ws w d ∙ ap (option_and_then (word_within setting w)) h ∙ k

-- Words behind words

joined_next : (setting : Setting) (xs ys : List Word) (o : Option ValueDraft)
    → ((d : ValueDraft) → within setting (xs ++ ys) d ≡ option_and_then (within setting ys) (within setting xs d))
    → option_and_then (within setting (xs ++ ys)) o ≡ option_and_then (within setting ys) (option_and_then (within setting xs) o)
joined_next setting xs ys (Some d) h = h d
joined_next setting xs ys None h = refl

within-append : (setting : Setting) (xs ys : List Word) (d : ValueDraft) → within setting (xs ++ ys) d ≡ option_and_then (within setting ys) (within setting xs d)
within-append setting [] ys d = refl
within-append setting (x ∷ xs) ys d = joined_next setting xs ys (word_within setting x d) (within-append setting xs ys)

take_both : (a b : ℕ) (ws : List Word) → take (a + b) ws ≡ take a ws ++ take b (drop a ws)
take_both a b ws = sym (take-append-drop a (take (a + b) ws)) ∙ (λ i. take-take a (a + b) ws (omega arith) i ++ drop-take a b ws i)

pub words_then : (setting : Setting) (ws : List Word) (a b : ℕ) (d e f : ValueDraft) → within setting (take a ws) d ≡ Some e → within setting (take b (drop a ws)) e ≡ Some f
    → within setting (take (a + b) ws) d ≡ Some f
words_then setting ws a b d e f h k =
    ap (λ l. within setting l d) (take_both a b ws) ∙ within-append setting (take a ws) (take b (drop a ws)) d
    ∙ ap (option_and_then (within setting (take b (drop a ws)))) h ∙ k

-- Values ahead

ahead_ends : (xs : List Item) (b : Bool) (d : ValueDraft) → cond b (Some (with_front xs d)) None ≡ option_map (with_front xs) (cond b (Some d) None)
ahead_ends xs true d = refl
ahead_ends xs false d = refl

ahead_goes : (xs : List Item) (r : Result (ValueDraft × Bool) Cause) → going_on (fronted xs r) ≡ option_map (with_front xs) (going_on r)
ahead_goes xs (Ok next) = ahead_ends xs (next.1 && not (has_ended next.0.expects)) next.0
ahead_goes xs (Err cause) = refl

ahead_sound : (xs : List Item) (b : Bool) (r s : Option ValueDraft) → r ≡ option_map (with_front xs) s → cond b r None ≡ option_map (with_front xs) (cond b s None)
ahead_sound xs true r s e = e
ahead_sound xs false r s e = refl

word_ahead : (setting : Setting) (w : Word) (xs : List Item) (d : ValueDraft) → word_within setting w (with_front xs d) ≡ option_map (with_front xs) (word_within setting w d)
word_ahead setting w xs d =
    ahead_sound xs (is_sound w) (going_on (value_step setting w (with_front xs d))) (going_on (value_step setting w d))
    (ap going_on (value_front setting w xs d) ∙ ahead_goes xs (value_step setting w d))

words_next : (setting : Setting) (ws : List Word) (xs : List Item) (o : Option ValueDraft)
    → ((d : ValueDraft) → within setting ws (with_front xs d) ≡ option_map (with_front xs) (within setting ws d))
    → option_and_then (within setting ws) (option_map (with_front xs) o) ≡ option_map (with_front xs) (option_and_then (within setting ws) o)
words_next setting ws xs (Some d) h = h d
words_next setting ws xs None h = refl

pub words_ahead : (setting : Setting) (ws : List Word) (xs : List Item) (d : ValueDraft) → within setting ws (with_front xs d) ≡ option_map (with_front xs) (within setting ws d)
words_ahead setting [] xs d = refl
words_ahead setting (w ∷ ws) xs d =
    ap (option_and_then (within setting ws)) (word_ahead setting w xs d) ∙ words_next setting ws xs (word_within setting w d) (words_ahead setting ws xs)

pub one_taken : (setting : Setting) (ws : List Word) (n : ℕ) (w : Word) (d e f : ValueDraft) → n < length ws → w ≡ get_or ws n w → within setting (take n ws) d ≡ Some e
    → word_within setting w e ≡ Some f → within setting (take (n + 1) ws) d ≡ Some f
one_taken setting ws n w d e f lt r h k = one_further setting (take n ws) (take (n + 1) ws) w d e f (take_more ws n w lt ∙ ap (λ x. take n ws ++ x ∷ []) (sym r)) h k

pub matched : (P Q : Type 0) (b : Bool) → b ≡ true → MatchBool b P Q → P
matched P Q true e h = h
matched P Q false e h = absurd (true≢false (sym e))

-- the first of two numbers of words
pub first_few : (setting : Setting) (ws front : List Word) (n m : ℕ) (d e : ValueDraft) → front ≡ take m ws → n ≤ length front → within setting (take n front) d ≡ Some e
    → within setting (take n ws) d ≡ Some e
first_few setting ws front n m d e f few h =
    let short : n ≤ m = let k = length-take m ws in let j = ap length f in omega arith in
    ap (λ l. within setting l d) (sym (ap (take n) f ∙ take-take n m ws short)) ∙ h
