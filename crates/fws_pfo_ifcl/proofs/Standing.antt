-- Rulings that stand for others, and those of rules, put one after another.
use Rattle.std.proofs.Common.{◌≡◌, ℕ, zero, suc, ◌+◌, ◌-◌, ◌<◌, ◌≤◌, Bool, true, false, cond, Option, Some, None, List, [], ◌∷◌, ◌++◌, length, map, get_or, take, drop, take-suc, arith, refl, sym, ap, ◌∙◌, subst, append_assoc, append-nil}
use Rattle.std.proofs.Math.Seq.{take-length}
use Rattle.std.proofs.lemmas.List.{map-append}
use Rattle.fws_net.specs.declared.condition.Lit.{Lit}
use Rattle.fws_net.specs.declared.outcome.End.{End}
use Rattle.fws_net.specs.declared.view.View.{View}
use Rattle.fws_net.specs.Conditions.{holds}
use Rattle.fws_join.specs.declared.decision.Decision.{Decision}
use Rattle.fws_join.specs.Deciding.{StandsFor, first_verdict}
use Rattle.fws_pfo.specs.declared.config.PfoRule.{PfoRule}
use Rattle.fws_pfo_ifcl.specs.declared.ruling.Ruling.{Ruling}
use Rattle.fws_pfo_ifcl.specs.Blocks.{deciding, decides_first, decides_last, quick_rulings, slow_rulings}
use Rattle.fws_pfo_ifcl.specs.Rulings.{Said, unsaid, dropping, passing, said, first_said, StandFor, ruling_of}

-- One part behind the other

-- the first of two
abbrev or_else : Said → Said → Said
or_else unsaid more = more
or_else dropping more = dropping
or_else (passing to) more = passing to

said_first : (passes : Bool) (to : Option End) (more : Said) → said passes to ≡ or_else (said passes to) more
said_first true to more = refl
said_first false to more = refl

chosen : (b passes : Bool) (to : Option End) (o more : Said) → cond b (said passes to) (or_else o more) ≡ or_else (cond b (said passes to) o) more
chosen true passes to o more = said_first passes to more
chosen false passes to o more = refl

first_append : (v : View) (xs ys : List Ruling) → first_said v (xs ++ ys) ≡ or_else (first_said v xs) (first_said v ys)
first_append v [] ys = refl
first_append v (x ∷ xs) ys =
    ap (cond (holds x.cond v) (said x.passes x.to)) (first_append v xs ys) ∙ chosen (holds x.cond v) x.passes x.to (first_said v xs) (first_said v ys)

pub stand_equal : (xs ys : List Ruling) → xs ≡ ys → StandFor xs ys
stand_equal xs ys is v = ap (first_said v) is

pub stand_through : (xs ys zs : List Ruling) → StandFor xs ys → StandFor ys zs → StandFor xs zs
stand_through xs ys zs a b v = a v ∙ b v

pub stand_longer : (xs ys more : List Ruling) → StandFor xs ys → StandFor (xs ++ more) (ys ++ more)
stand_longer xs ys more a v = first_append v xs more ∙ ap (λ o. or_else o (first_said v more)) (a v) ∙ sym (first_append v ys more)

pub stand_behind : (ahead xs ys : List Ruling) → StandFor xs ys → StandFor (ahead ++ xs) (ahead ++ ys)
stand_behind ahead xs ys a v = first_append v ahead xs ∙ ap (or_else (first_said v ahead)) (a v) ∙ sym (first_append v ahead ys)

-- Decisions with an end

abbrev said_with : Option End → Option Bool → Said
said_with to None = unsaid
said_with to (Some passes) = said passes to

with_chosen : (b passes : Bool) (to : Option End) (o : Option Bool) → cond b (said passes to) (said_with to o) ≡ said_with to (cond b (Some passes) o)
with_chosen true passes to o = refl
with_chosen false passes to o = refl

first_with : (v : View) (to : Option End) (all : List Decision) → first_said v (map (ruling_of to) all) ≡ said_with to (first_verdict v all)
first_with v to [] = refl
first_with v to (one ∷ all) =
    ap (cond (holds one.cond v) (said one.passes to)) (first_with v to all) ∙ with_chosen (holds one.cond v) one.passes to (first_verdict v all)

stand_with : (to : Option End) (xs ys : List Decision) → StandsFor xs ys → StandFor (map (ruling_of to) xs) (map (ruling_of to) ys)
stand_with to xs ys a v = first_with v to xs ∙ ap (said_with to) (a v) ∙ sym (first_with v to ys)

-- joined ones are put behind rulings
pub joined_put : (to : Option End) (ahead new : List Ruling) (fewer all : List Decision) → new ≡ ahead ++ map (ruling_of to) fewer → StandsFor fewer all
    → StandFor new (ahead ++ map (ruling_of to) all)
joined_put to ahead new fewer all is a =
    stand_through new (ahead ++ map (ruling_of to) fewer) (ahead ++ map (ruling_of to) all) (stand_equal new (ahead ++ map (ruling_of to) fewer) is)
    (stand_behind ahead (map (ruling_of to) fewer) (map (ruling_of to) all) (stand_with to fewer all a))

-- and no decision is behind them
pub begun : (to : Option End) (new old : List Ruling) (none : List Decision) → none ≡ [] → StandFor new old → StandFor (new ++ map (ruling_of to) none) old
begun to new old none is a = subst (λ l. StandFor l old) (sym (ap (λ l. new ++ map (ruling_of to) l) is ∙ append-nil new)) a

-- one more decision
pub one_put : (to : Option End) (ahead : List Ruling) (old new : List Decision) (one : Decision) → StandsFor new (old ++ one ∷ [])
    → StandFor (ahead ++ map (ruling_of to) new) (ahead ++ map (ruling_of to) old ++ ruling_of to one ∷ [])
one_put to ahead old new one a =
    let more = map (ruling_of to) (old ++ one ∷ []) in
    subst (StandFor (ahead ++ map (ruling_of to) new))
    (ap (λ l. ahead ++ l) (map-append (ruling_of to) old (one ∷ [])) ∙ sym (append_assoc ahead (map (ruling_of to) old) (ruling_of to one ∷ [])))
    (stand_behind ahead (map (ruling_of to) new) more (stand_with to new (old ++ one ∷ []) a))

-- one by which packets pass with the end that it has
pub passing_put : (test : List Lit) (to at : Option End) (old mid new : List Ruling) → at ≡ to → StandFor mid old
    → StandFor new (mid ++ record { cond = test; passes = true; to = at } ∷ []) → StandFor new (old ++ record { cond = test; passes = true; to = to } ∷ [])
passing_put test to at old mid new is turned put =
    let one : Ruling = record { cond = test; passes = true; to = to } in
    stand_through new (mid ++ one ∷ []) (old ++ one ∷ [])
    (subst (λ (e : Option End). StandFor new (mid ++ record { cond = test; passes = true; to = e } ∷ [])) is put)
    (stand_longer mid old (one ∷ []) turned)

-- one by which packets are dropped, whatever end the others have
pub dropping_put : (test : List Lit) (at : Option End) (old new : List Ruling)
    → StandFor new (old ++ record { cond = test; passes = false; to = at } ∷ []) → StandFor new (old ++ record { cond = test; passes = false; to = None } ∷ [])
dropping_put test at old new put =
    let one : Ruling = record { cond = test; passes = false; to = at } in
    let other : Ruling = record { cond = test; passes = false; to = None } in
    stand_through new (old ++ one ∷ []) (old ++ other ∷ []) put (stand_behind old (one ∷ []) (other ∷ []) (λ v. refl))

-- Rulings of rules

-- nothing is put
pub none_put : (old : List Ruling) → StandFor old (old ++ [])
none_put old = stand_equal old (old ++ []) (sym (append-nil old))

-- one part behind the other
stand_on : (a b one rest all o : List Ruling) → all ≡ one ++ rest → StandFor b (a ++ one) → StandFor (a ++ all) o → StandFor (b ++ rest) o
stand_on a b one rest all o are put inv =
    stand_through (b ++ rest) (a ++ all) o
    (subst (StandFor (b ++ rest)) (append_assoc a one rest ∙ ap (λ l. a ++ l) (sym are)) (stand_longer b (a ++ one) rest put)) inv

-- those that are quick are put from the first one on
behind_at : (rs : List PfoRule) (i : ℕ) (d : PfoRule) → i < length rs → drop i rs ≡ get_or rs i d ∷ drop (i + 1) rs
behind_at [] i d lt = absurd (omega arith)
behind_at (x ∷ rs) zero d lt = refl
behind_at (x ∷ rs) (suc i) d lt =
    let up : suc (i + 1) ≡ suc i + 1 = omega arith in behind_at rs i d (omega arith) ∙ ap (λ k. get_or rs i d ∷ drop k (x ∷ rs)) up

pub quick_put : (outward : Bool) (rs : List PfoRule) (i : ℕ) (r : PfoRule) (decides : Bool) (a b o : List Ruling) → i < length rs → r ≡ get_or rs i r
    → decides ≡ decides_first outward r → StandFor b (a ++ deciding decides r) → StandFor (a ++ quick_rulings outward (drop i rs)) o
    → StandFor (b ++ quick_rulings outward (drop (i + 1) rs)) o
quick_put outward rs i r decides a b o lt is asked put inv =
    let one = deciding (decides_first outward r) r in
    let more : quick_rulings outward (drop i rs) ≡ one ++ quick_rulings outward (drop (i + 1) rs) =
    ap (quick_rulings outward) (behind_at rs i r lt ∙ ap (λ x. x ∷ drop (i + 1) rs) (sym is)) in
    stand_on a b one (quick_rulings outward (drop (i + 1) rs)) (quick_rulings outward (drop i rs)) o more
    (subst (λ d. StandFor b (a ++ deciding d r)) asked put) inv

-- nothing is left
pub none_behind : (rs : List PfoRule) (n : ℕ) → length rs ≤ n → drop n rs ≡ []
none_behind [] zero le = refl
none_behind [] (suc n) le = refl
none_behind (r ∷ rs) zero le = absurd (omega arith)
none_behind (r ∷ rs) (suc n) le = none_behind rs n (omega arith)

pub none_left : (a b o : List Ruling) → b ≡ [] → StandFor (a ++ b) o → StandFor a o
none_left a b o none inv = subst (λ l. StandFor l o) (ap (λ l. a ++ l) none ∙ append-nil a) inv

-- a further rule ahead of those that aren't quick
slow_more : (outward : Bool) (rs : List PfoRule) (r : PfoRule) → slow_rulings outward (rs ++ r ∷ []) ≡ deciding (decides_last outward r) r ++ slow_rulings outward rs
slow_more outward [] r = sym (append-nil (deciding (decides_last outward r) r))
slow_more outward (first ∷ rs) r =
    let last = deciding (decides_last outward first) first in
    ap (λ l. l ++ last) (slow_more outward rs r) ∙ append_assoc (deciding (decides_last outward r) r) (slow_rulings outward rs) last

-- they are put from the last one on
pub slow_begun : (outward : Bool) (rs : List PfoRule) (n : ℕ) (a : List Ruling) → n ≡ length rs → StandFor (a ++ slow_rulings outward (take n rs)) (a ++ slow_rulings outward rs)
slow_begun outward rs n a all =
    stand_equal (a ++ slow_rulings outward (take n rs)) (a ++ slow_rulings outward rs)
    (ap (λ l. a ++ slow_rulings outward l) (ap (λ k. take k rs) all ∙ take-length rs))

pub slow_put : (outward : Bool) (rs : List PfoRule) (i : ℕ) (r d : PfoRule) (decides : Bool) (a b o : List Ruling) → 0 < i → i ≤ length rs → r ≡ get_or rs (i - 1) d
    → decides ≡ decides_last outward r → StandFor b (a ++ deciding decides r) → StandFor (a ++ slow_rulings outward (take i rs)) o
    → StandFor (b ++ slow_rulings outward (take (i - 1) rs)) o
slow_put outward rs i r d decides a b o lt le is asked put inv =
    let on : i ≡ suc (i - 1) = omega (arith, lt) in
    let one = deciding (decides_last outward r) r in
    let less = slow_rulings outward (take (i - 1) rs) in
    let more : slow_rulings outward (take i rs) ≡ one ++ less =
    ap (λ n. slow_rulings outward (take n rs)) on
    ∙ ap (slow_rulings outward) (take-suc rs (i - 1) d (omega (arith, lt, le)))
    ∙ slow_more outward (take (i - 1) rs) (get_or rs (i - 1) d)
    ∙ ap (λ x. deciding (decides_last outward x) x ++ less) (sym is) in
    stand_on a b one less (slow_rulings outward (take i rs)) o more (subst (λ x. StandFor b (a ++ deciding x r)) asked put) inv

-- both kinds, and what they become
pub both_put : (quick slow : List Ruling) (a b c d : List Ruling) → a ≡ [] → StandFor b (a ++ quick) → StandFor c (b ++ slow) → StandFor d c
    → StandFor d (quick ++ slow)
both_put quick slow a b c d none first second last =
    stand_through d c (quick ++ slow) last
    (stand_through c (b ++ slow) (quick ++ slow) second (subst (λ l. StandFor (b ++ slow) ((l ++ quick) ++ slow)) none (stand_longer b (a ++ quick) slow first)))
