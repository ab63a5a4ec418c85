-- Conditions of several choices.
use Rattle.std.proofs.Common.{◌≡◌, ℕ, ◌+◌, ◌<◌, List, [], ◌∷◌, ◌++◌, length, drop, get_or, map, refl, sym, ap, ◌∙◌, append-nil, append_assoc}
use Rattle.std.proofs.lemmas.List.{at_drop_more}
use Rattle.fws_net.specs.declared.condition.Lit.{Lit}
use Rattle.fws_pf.specs.declared.rule_draft.Choice.{Choice}
use Rattle.fws_pf.specs.Drawn.{conditions, crossed}
use Rattle.fws_pf_words.specs.declared.drawing.Drawing.{Drawing}
use Rattle.fws_pf_words.specs.Drawings.{drawn}

-- Choices of one condition each

both_ahead : (f c : List Lit) (rests : List (List Lit)) → map (λ rest. f ++ rest) (map (λ rest. c ++ rest) rests) ≡ map (λ rest. (f ++ c) ++ rest) rests
both_ahead f c [] = refl
both_ahead f c (rest ∷ rests) = λ i. sym (append_assoc f c rest) i ∷ both_ahead f c rests i

one_ahead : (f c : List Lit) (rests : List (List Lit)) → crossed (f ∷ []) (crossed (c ∷ []) rests) ≡ crossed ((f ++ c) ∷ []) rests
one_ahead f c rests = ap (λ (l : List (List Lit)). l ++ []) (ap (map (λ (rest : List Lit). f ++ rest)) (append-nil (map (λ rest. c ++ rest) rests)) ∙ both_ahead f c rests)

-- a condition goes on with the one condition of a choice
pub goes_on_with : (front one new : List Lit) (choice : Choice) (rest : List Choice) → choice.conds ≡ one ∷ [] → new ≡ front ++ one
    → crossed (new ∷ []) (conditions rest) ≡ crossed (front ∷ []) (conditions (choice ∷ rest))
goes_on_with front one new choice rest only made =
    ap (λ (l : List Lit). crossed (l ∷ []) (conditions rest)) made ∙ sym (one_ahead front one (conditions rest))
    ∙ sym (ap (λ (cs : List (List Lit)). crossed (front ∷ []) (crossed cs (conditions rest))) only)

-- where a choice has more conditions, each of them stands behind the front

all_ahead : (f : List Lit) (xs ys : List (List Lit)) → map (λ rest. f ++ rest) (xs ++ ys) ≡ map (λ rest. f ++ rest) xs ++ map (λ rest. f ++ rest) ys
all_ahead f [] ys = refl
all_ahead f (x ∷ xs) ys = ap (λ (l : List (List Lit)). (f ++ x) ∷ l) (all_ahead f xs ys)

first_ahead : (f o : List Lit) (os rests : List (List Lit))
    → crossed (f ∷ []) (crossed (o ∷ os) rests) ≡ crossed ((f ++ o) ∷ []) rests ++ crossed (f ∷ []) (crossed os rests)
first_ahead f o os rests =
    let first = map (λ rest. o ++ rest) rests in
    let others = crossed os rests in
    ap (λ (l : List (List Lit)). l ++ []) (all_ahead f first others)
    ∙ append_assoc (map (λ rest. f ++ rest) first) (map (λ rest. f ++ rest) others) []
    ∙ ap (λ (l : List (List Lit)). l ++ crossed (f ∷ []) others) (both_ahead f o rests ∙ sym (append-nil (map (λ rest. (f ++ o) ++ rest) rests)))

pub each_more : (conds : List (List Lit)) (i : ℕ) (front one next : List Lit) (rests all new total : List (List Lit)) → i < length conds → one ≡ get_or conds i one
    → next ≡ front ++ one → new ≡ all ++ crossed (next ∷ []) rests → all ++ crossed (front ∷ []) (crossed (drop i conds) rests) ≡ total
    → new ++ crossed (front ∷ []) (crossed (drop (i + 1) conds) rests) ≡ total
each_more conds i front one next rests all new total within at made put before =
    let behind = drop (i + 1) conds in
    let left : crossed (drop i conds) rests ≡ crossed (one ∷ behind) rests =
    at_drop_more (λ cs. crossed cs rests) conds i one within ∙ ap (λ (o : List Lit). crossed (o ∷ behind) rests) (sym at) in
    ap (λ (l : List (List Lit)). l ++ crossed (front ∷ []) (crossed behind rests)) (put ∙ ap (λ (l : List Lit). all ++ crossed (l ∷ []) rests) made)
    ∙ append_assoc all (crossed ((front ++ one) ∷ []) rests) (crossed (front ∷ []) (crossed behind rests))
    ∙ ap (λ (l : List (List Lit)). all ++ l) (sym (first_ahead front one behind rests) ∙ sym (ap (crossed (front ∷ [])) left)) ∙ before

nothing_ahead : (rests : List (List Lit)) → map (λ (rest : List Lit). [] ++ rest) rests ≡ rests
nothing_ahead [] = refl
nothing_ahead (rest ∷ rests) = ap (λ (l : List (List Lit)). rest ∷ l) (nothing_ahead rests)

-- behind no literals the conditions stand as they are
pub from_none : (rests : List (List Lit)) (start : List Lit) → start ≡ [] → crossed (start ∷ []) rests ≡ rests
from_none rests start none = ap (λ (l : List Lit). crossed (l ∷ []) rests) none ∙ append-nil (map (λ (rest : List Lit). [] ++ rest) rests) ∙ nothing_ahead rests

-- Choices that are put one after another

pub put_ahead : (old new : Drawing) (one : List Lit) (choice : Choice) → old.more ≡ [] → new.front ≡ old.front ++ one → new.more ≡ old.more → choice.conds ≡ one ∷ []
    → (rest : List Choice) → drawn new rest ≡ drawn old (choice ∷ rest)
put_ahead old new one choice none front more only rest =
    ap (λ (cs : List Choice). crossed (new.front ∷ []) (conditions (cs ++ rest))) (more ∙ none) ∙ goes_on_with old.front one new.front choice rest only front
    ∙ sym (ap (λ (cs : List Choice). crossed (old.front ∷ []) (conditions (cs ++ choice ∷ rest))) none)
