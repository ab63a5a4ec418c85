-- Words behind words, pieces of them, and the words of a whole statement, whatever a word makes of a statement.
use Rattle.std.proofs.Common.{◌≡◌, ℕ, Bool, true, false, cond, Result, Ok, Err, List, [], ◌∷◌, ◌++◌, length, take, drop, refl, sym, ap, subst, ◌∙◌, arith, IfOk, suc, ◌+◌, ◌<◌, get_or, drop-cons}
use Rattle.std.proofs.lemmas.List.{take-append-drop, take_all}
use Rattle.fws_num.specs.declared.word.Word.{Word}
use Rattle.fws_num.specs.Words.{is_sound}
use Rattle.fws_net.specs.declared.cause.Cause.{Cause}
use Rattle.fws_net.specs.declared.cause.Cause.TheVariants.{Syntax}
use Rattle.fws_net.specs.declared.answer.LineFault.{LineFault}
use Rattle.fws_net.specs.declared.answer.LineFault.TheVariants as faults
use Rattle.fws_net.specs.Reading.{FaultGiven, and_then}
use Rattle.fws_pf.specs.declared.macros.Macro.{Macro}
use Rattle.fws_pf.specs.Macros.{meant}
use Rattle.fws_pf_read.specs.Taking.{SaidGiven, meant_taken, raw_taken, raws_taken, word_taken, words_taken}

pub in_any_case : {X Y : Type 0} (r : Result X Y) (P : X → Type 0) → ((x : X) → P x) → IfOk r P
in_any_case (Ok x) P f = f x
in_any_case (Err e) P f = tt

module _ {O S : Type 0} (seen : O → S) (step : Word → S → Result S Cause) (fault : S → Cause → Cause) where
  -- Words behind words

  after : (xs ys : List Word) (s : S) → words_taken step fault (xs ++ ys) s ≡ and_then (words_taken step fault xs s) (words_taken step fault ys)
  after [] ys s = refl
  after (x ∷ xs) ys s = after_word (word_taken step fault x s) (λ t. after xs ys t)
    where
      after_word : (r : Result S Cause) → ((t : S) → words_taken step fault (xs ++ ys) t ≡ and_then (words_taken step fault xs t) (words_taken step fault ys))
          → and_then r (words_taken step fault (xs ++ ys)) ≡ and_then (and_then r (words_taken step fault xs)) (words_taken step fault ys)
      after_word (Ok t) h = h t
      after_word (Err cause) h = refl

  -- the words that are left of those of which some were taken
  pub words_left : (ws rest : List Word) (n : ℕ) (s next : S) → words_taken step fault (take n ws) s ≡ Ok next → rest ≡ drop n ws
      → words_taken step fault ws s ≡ words_taken step fault rest next
  words_left ws rest n s next h r =
      ap (λ l. words_taken step fault l s) (sym (take-append-drop n ws)) ∙ after (take n ws) (drop n ws) s
      ∙ ap (λ q. and_then q (words_taken step fault (drop n ws))) h ∙ ap (λ l. words_taken step fault l next) (sym r)

  pub words_behind : (xs ys all : List Word) (s next : S) → all ≡ xs ++ ys → words_taken step fault xs s ≡ Ok next
      → words_taken step fault all s ≡ words_taken step fault ys next
  words_behind xs ys all s next a h =
      ap (λ l. words_taken step fault l s) a ∙ after xs ys s ∙ ap (λ q. and_then q (words_taken step fault ys)) h

  -- Pieces

  pub piece_whole : (ws : List Word) (n : ℕ) (s next : S) → words_taken step fault (take n ws) s ≡ Ok next → n ≡ length ws
      → words_taken step fault ws s ≡ Ok next
  piece_whole ws n s next h e = ap (λ l. words_taken step fault l s) (sym (take_all n ws (omega arith))) ∙ h

  pub piece_rest : (ws rest : List Word) (n : ℕ) (s next : S) (r : Result O (LineFault Cause))
      → words_taken step fault (take n ws) s ≡ Ok next → rest ≡ drop n ws → SaidGiven seen r (words_taken step fault rest next) → SaidGiven seen r (words_taken step fault ws s)
  piece_rest ws rest n s next r h e given = subst (SaidGiven seen r) (sym (words_left ws rest n s next h e)) given

  -- a piece that was taken, ahead of another
  pub front_taken : (xs ys all : List Word) (s : S) (next : O) (r : Result O (LineFault Cause)) → all ≡ xs ++ ys
      → words_taken step fault xs s ≡ Ok (seen next) → SaidGiven seen r (words_taken step fault ys (seen next)) → SaidGiven seen r (words_taken step fault all s)
  front_taken xs ys all s next r a h given = subst (SaidGiven seen r) (sym (words_behind xs ys all s (seen next) a h)) given

  refused_front : (xs ys all : List Word) (s : S) (cause : Cause) → all ≡ xs ++ ys → words_taken step fault xs s ≡ Err cause
      → words_taken step fault all s ≡ Err cause
  refused_front xs ys all s cause a h =
      ap (λ l. words_taken step fault l s) a ∙ after xs ys s ∙ ap (λ q. and_then q (words_taken step fault ys)) h

  pub front_refused : (xs ys all : List Word) (s : S) (why : LineFault Cause) → all ≡ xs ++ ys
      → FaultGiven why (words_taken step fault xs s) → FaultGiven why (words_taken step fault all s)
  front_refused xs ys all s (faults.Bad cause) a h = refused_front xs ys all s cause a h
  front_refused xs ys all s faults.Memory a h = tt

  -- The words of a statement

  raws_ahead : (macros : List Macro) (words : List Word) (i : ℕ) (w : Word) (s : S) → i < length words → w ≡ get_or words i w
      → raws_taken step fault macros (drop i words) s ≡ and_then (raw_taken step fault macros w s) (raws_taken step fault macros (drop (i + 1) words))
  raws_ahead macros words i w s lt r =
      ap (λ l. raws_taken step fault macros l s) (drop-cons words i w lt ∙ ap (λ (x : Word). x ∷ drop (suc i) words) (sym r))
      ∙ ap (λ n. and_then (raw_taken step fault macros w s) (raws_taken step fault macros (drop n words))) (let k : suc i ≡ i + 1 = omega arith in k)

  pub raws_step : (macros : List Macro) (words : List Word) (i : ℕ) (w : Word) (s next : S) (total : Result S Cause)
      → i < length words → w ≡ get_or words i w → raw_taken step fault macros w s ≡ Ok next → raws_taken step fault macros (drop i words) s ≡ total
      → raws_taken step fault macros (drop (i + 1) words) next ≡ total
  raws_step macros words i w s next total lt r h e =
      sym (ap (λ x. and_then x (raws_taken step fault macros (drop (i + 1) words))) h) ∙ sym (raws_ahead macros words i w s lt r) ∙ e

  pub raws_refused : (macros : List Macro) (words : List Word) (i : ℕ) (w : Word) (s : S) (total : Result S Cause)
      (why : LineFault Cause) → i < length words → w ≡ get_or words i w → FaultGiven why (raw_taken step fault macros w s)
      → raws_taken step fault macros (drop i words) s ≡ total → FaultGiven why total
  raws_refused macros words i w s total (faults.Bad cause) lt r h e =
      sym e ∙ raws_ahead macros words i w s lt r ∙ ap (λ x. and_then x (raws_taken step fault macros (drop (i + 1) words))) h
  raws_refused macros words i w s total faults.Memory lt r h e = tt

  -- A word and the words for which it stands

  pub raw_sound : (macros : List Macro) (w : Word) (s : S) (r : Result O (LineFault Cause)) → is_sound w ≡ true
      → SaidGiven seen r (meant_taken step fault (meant macros w) s) → SaidGiven seen r (raw_taken step fault macros w s)
  raw_sound macros w s r sound given =
      subst (λ (b : Bool). SaidGiven seen r (cond b (meant_taken step fault (meant macros w) s) (Err (fault s Syntax)))) (sym sound) given

  pub raw_unsound : (macros : List Macro) (w : Word) (s : S) (why : LineFault Cause) → is_sound w ≡ false
      → why ≡ faults.Bad (fault s Syntax) → FaultGiven why (raw_taken step fault macros w s)
  raw_unsound macros w s why sound e =
      subst (λ (f : LineFault Cause). FaultGiven f (raw_taken step fault macros w s)) (sym e)
      (ap (λ (b : Bool). cond b (meant_taken step fault (meant macros w) s) (Err (fault s Syntax))) sound)

  pub meant_given : (macros : List Macro) (w : Word) (ws : List Word) (s : S) (r : Result O (LineFault Cause))
      → meant macros w ≡ Ok ws → SaidGiven seen r (words_taken step fault ws s) → SaidGiven seen r (meant_taken step fault (meant macros w) s)
  meant_given macros w ws s r e given = subst (λ (m : Result (List Word) Cause). SaidGiven seen r (meant_taken step fault m s)) (sym e) given

  pub meant_refused : (macros : List Macro) (w : Word) (s : S) (cause : Cause) (why : LineFault Cause) → meant macros w ≡ Err cause
      → why ≡ faults.Bad (fault s cause) → FaultGiven why (meant_taken step fault (meant macros w) s)
  meant_refused macros w s cause why e f =
      subst (λ (x : LineFault Cause). FaultGiven x (meant_taken step fault (meant macros w) s)) (sym f)
      (ap (λ (m : Result (List Word) Cause). meant_taken step fault m s) e)
