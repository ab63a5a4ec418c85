-- What words add to a value, whatever it has already.
use Rattle.std.proofs.Common.{◌≡◌, ℕ, ◌<◌, nat_lt, arith, Bool, true, false, cond, Option, None, Some, Result, Ok, Err, OnOk, List, [], ◌∷◌, ◌++◌, refl, sym, ap, subst, ◌∙◌}
use Rattle.std.proofs.lemmas.List.{append-nil, append_assoc}
use Rattle.std.proofs.lemmas.Bool.Decides.{nat_tests}
use Rattle.std.specs.Map.{lookup}
use Rattle.std.specs.Str.{bytes_eq}
use Rattle.std.proofs.lemmas.Slice.Eq.{bytes_eq-Decides}
use Rattle.fws_num.specs.declared.word.Word.{Word}
use Rattle.fws_net.specs.declared.cause.Cause.{Cause}
use Rattle.fws_net.specs.declared.answer.LineFault.{LineFault}
use Rattle.fws_net.specs.declared.answer.LineFault.TheVariants as faults
use Rattle.fws_net.specs.Causes.{judged}
use Rattle.fws_net.specs.Reading.{and_then, FaultGiven, StepGiven}
use Rattle.fws_pf.specs.Macros.{value_words, with_words}
use Rattle.fws_pf_words.specs.Additions.{AreAdditions}
use Rattle.fws_pf_words.specs.Kept.{kept_words, with_more, with_word}
use Rattle.fws_pf_words.proofs.Keeping.{held, put_ahead}

-- Words behind words

no_more : (ws : List Word) → with_more None ws ≡ None
no_more [] = refl
no_more (w ∷ ws) = no_more ws

-- what is too large stays so
pub full : (old : Option (List Word)) (ws more : List Word) (size : ℕ) → held size ws ≡ old → 65537 < size → old ≡ with_more old more
full old ws more size view h =
    let large : nat_lt 65537 size ≡ true = grind (arith, nat_tests) in
    let none : old ≡ None = sym view ∙ ap (λ b. cond b None (Some ws)) large in
    none ∙ sym (no_more more) ∙ ap (λ k. with_more k more) (sym none)

more_twice : (k : Option (List Word)) (xs ys : List Word) → with_more k (xs ++ ys) ≡ with_more (with_more k xs) ys
more_twice k [] ys = refl
more_twice k (x ∷ xs) ys = more_twice (with_word k x) xs ys

ahead_twice : (xs ys : List Word) (r : Result (List Word) Cause) → put_ahead (xs ++ ys) r ≡ put_ahead xs (put_ahead ys r)
ahead_twice xs ys (Ok rest) = ap (λ l. Ok l) (append_assoc xs ys rest)
ahead_twice xs ys (Err cause) = refl

shifted : (value : List Word) (j : Result (List Word) Cause) (ws : List Word)
    → ((more : List Word) → with_words more ws ≡ put_ahead more (with_words [] ws))
    → and_then j (λ more. with_words (value ++ more) ws) ≡ put_ahead value (and_then j (λ more. with_words more ws))
shifted value (Ok more) ws h =
    h (value ++ more) ∙ ahead_twice value more (with_words [] ws) ∙ sym (ap (put_ahead value) (h more))
shifted value (Err cause) ws h = refl

behind : (ws value : List Word) → with_words value ws ≡ put_ahead value (with_words [] ws)
behind [] value = ap (λ l. Ok l) (sym (append-nil value))
behind (w ∷ ws) value = shifted value (judged w (value_words w)) ws (behind ws)

-- What is kept of what words add

abbrev keeping : Option (List Word) → Result (List Word) Cause → Result (Option (List Word)) Cause
keeping k r = and_then r (λ more. Ok (with_more k more))

keeping_ahead : (k : Option (List Word)) (more : List Word) (r : Result (List Word) Cause) → keeping (with_more k more) r ≡ keeping k (put_ahead more r)
keeping_ahead k more (Ok rest) = ap (λ o. Ok o) (sym (more_twice k more rest))
keeping_ahead k more (Err cause) = refl

kept_next : (k : Option (List Word)) (j : Result (List Word) Cause) (ws : List Word) → ((o : Option (List Word)) → kept_words o ws ≡ keeping o (with_words [] ws))
    → and_then j (λ more. kept_words (with_more k more) ws) ≡ keeping k (and_then j (λ more. with_words more ws))
kept_next k (Ok more) ws h =
    h (with_more k more) ∙ keeping_ahead k more (with_words [] ws) ∙ sym (ap (keeping k) (behind ws more))
kept_next k (Err cause) ws h = refl

all_kept : (ws : List Word) (k : Option (List Word)) → kept_words k ws ≡ keeping k (with_words [] ws)
all_kept [] k = refl
all_kept (w ∷ ws) k = kept_next k (judged w (value_words w)) ws (all_kept ws)

kept_behind : (j : Result (List Word) Cause) (k : Option (List Word)) (xs ys : List Word)
    → ((o : Option (List Word)) → kept_words o (xs ++ ys) ≡ and_then (kept_words o xs) (λ n. kept_words n ys))
    → and_then j (λ more. kept_words (with_more k more) (xs ++ ys)) ≡ and_then (and_then j (λ more. kept_words (with_more k more) xs)) (λ n. kept_words n ys)
kept_behind (Ok more) k xs ys h = h (with_more k more)
kept_behind (Err cause) k xs ys h = refl

kept_twice : (xs ys : List Word) (k : Option (List Word)) → kept_words k (xs ++ ys) ≡ and_then (kept_words k xs) (λ n. kept_words n ys)
kept_twice [] ys k = refl
kept_twice (x ∷ xs) ys k = kept_behind (judged x (value_words x)) k xs ys (kept_twice xs ys)

-- What the code shows of these

pub added : (ws more : List Word) (k new : Option (List Word)) → with_words [] ws ≡ Ok more → new ≡ with_more k more → kept_words k ws ≡ Ok new
added ws more k new h n = all_kept ws k ∙ ap (keeping k) h ∙ ap (λ o. Ok o) (sym n)

-- words of a name of which it is known what they add
pub known_added : (words_of : List ℕ → List Word) (ws more : List Word) (k new : Option (List Word)) (es : List (List ℕ × List Word)) (name : List ℕ)
    → Some more ≡ lookup (bytes_eq name) es → new ≡ with_more k more → words_of name ≡ ws → AreAdditions words_of es → kept_words k ws ≡ Ok new
known_added words_of ws more k new es name there n is are = added ws more k new (ap (with_words []) (sym is) ∙ are name more (sym there)) n

pub not_added : (ws : List Word) (k : Option (List Word)) (fault : LineFault Cause) → FaultGiven fault (with_words [] ws) → FaultGiven fault (kept_words k ws)
not_added ws k (faults.Bad cause) h = all_kept ws k ∙ ap (keeping k) h
not_added ws k faults.Memory h = tt

first_at : (P : Type 0) (now known : List Word) (o : Option (List Word)) (b : Bool) → (b ≡ true → now ≡ known → P) → (o ≡ Some known → P) → cond b (Some now) o ≡ Some known → P
first_at P now known o true f g h = f refl (let same : now ≡ known = cc in same)
first_at P now known o false f g h = g h

-- what the words of a name add is noted
pub noted : (words_of : List ℕ → List Word) (now : List Word) (es new : List (List ℕ × List Word)) (name key : List ℕ) → key ≡ name
    → ((other : List ℕ) → lookup (bytes_eq other) new ≡ cond (bytes_eq key other) (Some now) (lookup (bytes_eq other) es))
    → with_words [] (words_of name) ≡ Ok now → AreAdditions words_of es → AreAdditions words_of new
noted words_of now es new name key k put add are other more h =
    first_at (with_words [] (words_of other) ≡ Ok more) now more (lookup (bytes_eq other) es) (bytes_eq key other)
    (λ b v. ap (λ n. with_words [] (words_of n)) (sym ((bytes_eq-Decides key other).0 b) ∙ k) ∙ add ∙ ap (λ l. Ok l) v)
    (are other more) (sym (put other) ∙ h)

-- words behind those that were taken
pub front_kept : (all xs ys : List Word) (k next : Option (List Word)) (r : Result Unit (LineFault Cause)) (new : Option (List Word)) → all ≡ xs ++ ys
    → kept_words k xs ≡ Ok next → StepGiven r new (kept_words next ys) → StepGiven r new (kept_words k all)
front_kept all xs ys k next r new a h given =
    subst (StepGiven r new) (sym (ap (kept_words k) a ∙ kept_twice xs ys k ∙ ap (λ q. and_then q (λ n. kept_words n ys)) h)) given

pub front_not_kept : (all xs ys : List Word) (k : Option (List Word)) (fault : LineFault Cause) → all ≡ xs ++ ys
    → FaultGiven fault (kept_words k xs) → FaultGiven fault (kept_words k all)
front_not_kept all xs ys k (faults.Bad cause) a h = ap (kept_words k) a ∙ kept_twice xs ys k ∙ ap (λ q. and_then q (λ n. kept_words n ys)) h
front_not_kept all xs ys k faults.Memory a h = tt

-- both are so, where the words could be taken
pub first_known : {X Y : Type 0} (r : Result X Y) (P Q : Type 0) → OnOk r P → Q → OnOk r (P × Q)
first_known (Ok x) P Q p q = (p, q)
first_known (Err y) P Q p q = tt

pub always_known : {X Y : Type 0} (r : Result X Y) (P : Type 0) → P → OnOk r P
always_known (Ok x) P p = p
always_known (Err y) P p = tt
