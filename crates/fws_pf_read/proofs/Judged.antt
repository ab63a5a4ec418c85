-- Words of which all can be judged.
use Rattle.std.proofs.Common.{◌≡◌, ℕ, Bool, true, false, ◌&&◌, cond, Result, Ok, Err, List, [], ◌∷◌, ◌++◌, take, drop, refl, sym, ap, ◌∙◌, true≢false}
use Rattle.std.proofs.lemmas.List.{take-append-drop}
use Rattle.std.proofs.lemmas.List.Folds.{list_all-append}
use Rattle.std.specs.List.{list_all}
use Rattle.fws_num.specs.declared.word.Word.{Word}
use Rattle.fws_num.specs.Words.{is_printed, is_sound}
use Rattle.fws_net.specs.declared.cause.Cause.{Cause}
use Rattle.fws_net.specs.Reading.{and_then}
use Rattle.fws_pf_words.specs.Uses.{all_but_last, last_joined}
use Rattle.fws_pf_read.specs.Taking.{words_taken}

behind : (a b : Bool) → (a && b) ≡ true → b ≡ true
behind true b h = h
behind false b h = absurd (true≢false (sym h))

ahead : (a b : Bool) → (a && b) ≡ true → a ≡ true
ahead true b h = refl
ahead false b h = h

both : (a b : Bool) → a ≡ true → b ≡ true → (a && b) ≡ true
both a b e f = ap (λ x. x && b) e ∙ f

-- those that are left
pub rest_judged : (ws rest : List Word) (n : ℕ) → rest ≡ drop n ws → list_all is_sound ws ≡ true → list_all is_sound rest ≡ true
rest_judged ws rest n e h =
    ap (list_all is_sound) e
    ∙ behind (list_all is_sound (take n ws)) (list_all is_sound (drop n ws))
    (sym (list_all-append is_sound (take n ws) (drop n ws)) ∙ ap (list_all is_sound) (take-append-drop n ws) ∙ h)

-- all but the last one
front_all : (ws : List Word) → list_all is_sound ws ≡ true → list_all is_sound (all_but_last ws) ≡ true
front_all [] h = refl
front_all (w ∷ []) h = refl
front_all (w ∷ v ∷ ws) h =
    both (is_sound w) (list_all is_sound (all_but_last (v ∷ ws))) (ahead (is_sound w) (list_all is_sound (v ∷ ws)) h)
    (front_all (v ∷ ws) (behind (is_sound w) (list_all is_sound (v ∷ ws)) h))

pub front_judged : (ws front : List Word) → front ≡ all_but_last ws → list_all is_sound ws ≡ true → list_all is_sound front ≡ true
front_judged ws front e h = ap (list_all is_sound) e ∙ front_all ws h

joined_by : (quoted whole : Bool) (t text : List ℕ) → cond quoted whole (list_all is_printed t) ≡ true → list_all is_printed text ≡ true
    → cond quoted whole (list_all is_printed (t ++ text)) ≡ true
joined_by true whole t text h p = h
joined_by false whole t text h p = list_all-append is_printed t text ∙ both (list_all is_printed t) (list_all is_printed text) h p

-- the last one with a printed text joined to it
last_all : (ws : List Word) (text : List ℕ) → list_all is_sound ws ≡ true → list_all is_printed text ≡ true → list_all is_sound (last_joined ws text) ≡ true
last_all [] text h p = refl
last_all (w ∷ []) text h p =
    both (is_sound (record w { text = w.text ++ text })) true (joined_by w.quoted w.whole w.text text (ahead (is_sound w) true h) p) refl
last_all (w ∷ v ∷ ws) text h p = last_all (v ∷ ws) text (behind (is_sound w) (list_all is_sound (v ∷ ws)) h) p

-- a statement that has no effect passes over them
one_passed : {S : Type 0} (b : Bool) (r : Result S Cause) (s : S) (cause : Cause) (k : S → Result S Cause) → b ≡ true → r ≡ Ok s → and_then (cond b r (Err cause)) k ≡ k s
one_passed true r s cause k e same = ap (λ x. and_then x k) same
one_passed false r s cause k e same = absurd (true≢false (sym e))

all_passed : {S : Type 0} (step : Word → S → Result S Cause) (fault : S → Cause → Cause) (ws : List Word) (s : S) → ((w : Word) → step w s ≡ Ok s) → list_all is_sound ws ≡ true
    → words_taken step fault ws s ≡ Ok s
all_passed step fault [] s idle h = refl
all_passed step fault (w ∷ ws) s idle h =
    one_passed (is_sound w) (step w s) s _ (words_taken step fault ws) (ahead (is_sound w) (list_all is_sound ws) h) (idle w)
    ∙ all_passed step fault ws s idle (behind (is_sound w) (list_all is_sound ws) h)

pub passed_over : {S : Type 0} (step : Word → S → Result S Cause) (fault : S → Cause → Cause) (ws : List Word) (n : ℕ) (s : S) (total : Result S Cause) → list_all is_sound ws ≡ true
    → ((w : Word) → step w s ≡ Ok s) → words_taken step fault (drop n ws) s ≡ total → total ≡ Ok s
passed_over step fault ws n s total h idle t = sym t ∙ all_passed step fault (drop n ws) s idle (rest_judged ws (drop n ws) n refl h)

pub last_passed : {S : Type 0} (step : Word → S → Result S Cause) (fault : S → Cause → Cause) (ws : List Word) (text : List ℕ) (s : S) → list_all is_sound ws ≡ true
    → list_all is_printed text ≡ true → ((w : Word) → step w s ≡ Ok s) → words_taken step fault (last_joined ws text) s ≡ Ok s
last_passed step fault ws text s h p idle = all_passed step fault (last_joined ws text) s idle (last_all ws text h p)
