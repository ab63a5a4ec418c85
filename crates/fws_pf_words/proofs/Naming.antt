-- Which table words define, seen word by word.
use Rattle.std.proofs.Common.{◌≡◌, ℕ, ◌+◌, ◌<◌, ◌≤◌, Bool, true, false, ◌&&◌, not, cond, Option, Some, None, Result, Ok, Err, List, [], ◌∷◌, ◌++◌, length, IfOk, get_or, drop, codes, refl, sym, ap, ◌∙◌, true≢false}
use Rattle.std.proofs.lemmas.List.{at_drop_all, at_drop_more}
use Rattle.std.specs.Str.{bytes_eq}
use Rattle.fws_num.specs.declared.memory.Memory.{Memory}
use Rattle.fws_num.specs.declared.word.Word.{Word}
use Rattle.fws_num.specs.Words.{is_sound}
use Rattle.fws_net.specs.declared.cause.Cause.{Cause}
use Rattle.fws_pf.specs.declared.macros.Macro.{Macro}
use Rattle.fws_pf.specs.FileText.{readable, table_defined, with_front, with_meant}
use Rattle.fws_pf.specs.Macros.{meant}
use Rattle.fws_pf.specs.Statements.{is_mark}
use Rattle.fws_pf.specs.Values.{is_any_mark}
use Rattle.fws_pf_words.specs.declared.defining.Defining.{Defining}
use Rattle.fws_pf_words.specs.declared.defining.Stage.{Stage}
use Rattle.fws_pf_words.specs.declared.defining.Stage.TheVariants as stages
use Rattle.fws_pf_words.specs.Defining.{is_over, name_of, named, staged, undefined, words_seen}

-- what is over stays
stays_at : (stage : Stage) (name : List ℕ) (ws : List Word) → is_over stage ≡ true → words_seen (record { stage = stage; name = name }) ws ≡ record { stage = stage; name = name }
stays_at stage name [] e = refl
stays_at stages.Whole name (w ∷ ws) e = stays_at stages.Whole name ws refl
stays_at stages.Other name (w ∷ ws) e = stays_at stages.Other name ws refl
stays_at stages.Table name (w ∷ ws) e = absurd (true≢false (sym e))
stays_at stages.Open name (w ∷ ws) e = absurd (true≢false (sym e))
stays_at stages.Name name (w ∷ ws) e = absurd (true≢false (sym e))
stays_at stages.Close name (w ∷ ws) e = absurd (true≢false (sym e))

pub stays : (d : Defining) (ws : List Word) → is_over d.stage ≡ true → words_seen d ws ≡ d
stays d ws e = stays_at d.stage d.name ws e

abbrev closing : List ℕ → List Word → Option (List ℕ)
closing name [] = None
closing name (w ∷ ws) = cond (is_mark w (codes ">")) (Some name) None

abbrev naming : List Word → Option (List ℕ)
naming [] = None
naming (w ∷ ws) = cond (is_any_mark w) None (closing w.text ws)

abbrev opening : List Word → Option (List ℕ)
opening [] = None
opening (w ∷ ws) = cond (is_mark w (codes "<")) (naming ws) None

abbrev beginning : List Word → Option (List ℕ)
beginning [] = None
beginning (w ∷ ws) = cond (bytes_eq w.text (codes "table")) (opening ws) None

none_more : (name : List ℕ) (ws : List Word) → name_of (words_seen (record { stage = stages.Other; name = name }) ws) ≡ None
none_more name ws = ap name_of (stays (record { stage = stages.Other; name = name }) ws refl)

closed_by : (fits : Bool) (name : List ℕ) (ws : List Word) →
    name_of (words_seen (staged fits stages.Whole (record { stage = stages.Close; name = name })) ws) ≡ cond fits (Some name) None
closed_by true name ws = ap name_of (stays (record { stage = stages.Whole; name = name }) ws refl)
closed_by false name ws = none_more name ws

at_close : (name : List ℕ) (ws : List Word) → name_of (words_seen (record { stage = stages.Close; name = name }) ws) ≡ closing name ws
at_close name [] = refl
at_close name (w ∷ ws) = closed_by (is_mark w (codes ">")) name ws

named_by : (mark : Bool) (text name : List ℕ) (ws : List Word) →
    name_of (words_seen (named mark text (record { stage = stages.Name; name = name })) ws) ≡ cond mark None (closing text ws)
named_by true text name ws = none_more name ws
named_by false text name ws = at_close text ws

at_name : (name : List ℕ) (ws : List Word) → name_of (words_seen (record { stage = stages.Name; name = name }) ws) ≡ naming ws
at_name name [] = refl
at_name name (w ∷ ws) = named_by (is_any_mark w) w.text name ws

opened_by : (fits : Bool) (name : List ℕ) (ws : List Word) →
    name_of (words_seen (staged fits stages.Name (record { stage = stages.Open; name = name })) ws) ≡ cond fits (naming ws) None
opened_by true name ws = at_name name ws
opened_by false name ws = none_more name ws

at_open : (name : List ℕ) (ws : List Word) → name_of (words_seen (record { stage = stages.Open; name = name }) ws) ≡ opening ws
at_open name [] = refl
at_open name (w ∷ ws) = opened_by (is_mark w (codes "<")) name ws

begun_by : (fits : Bool) (name : List ℕ) (ws : List Word) →
    name_of (words_seen (staged fits stages.Open (record { stage = stages.Table; name = name })) ws) ≡ cond fits (opening ws) None
begun_by true name ws = at_open name ws
begun_by false name ws = none_more name ws

at_begin : (ws : List Word) → name_of (words_seen undefined ws) ≡ beginning ws
at_begin [] = refl
at_begin (w ∷ ws) = begun_by (bytes_eq w.text (codes "table")) [] ws

abbrev no : Option (List ℕ)
no = None

nothing : (b : Bool) → cond b no no ≡ no
nothing true = refl
nothing false = refl

all_four : (a b c d : Bool) (name : List ℕ) → cond a (cond b (cond c None (cond d (Some name) None)) None) None ≡ cond (((a && b) && not c) && d) (Some name) None
all_four true true true d name = refl
all_four true true false d name = refl
all_four true false c d name = refl
all_four false b c d name = refl

whole : (ws : List Word) → beginning ws ≡ table_defined ws
whole [] = refl
whole (a ∷ []) = nothing (bytes_eq a.text (codes "table"))
whole (a ∷ b ∷ []) = ap (λ o. cond (bytes_eq a.text (codes "table")) o None) (nothing (is_mark b (codes "<"))) ∙ nothing (bytes_eq a.text (codes "table"))
whole (a ∷ b ∷ c ∷ []) =
    ap (λ o. cond (bytes_eq a.text (codes "table")) (cond (is_mark b (codes "<")) o None) None) (nothing (is_any_mark c))
    ∙ ap (λ o. cond (bytes_eq a.text (codes "table")) o None) (nothing (is_mark b (codes "<")))
    ∙ nothing (bytes_eq a.text (codes "table"))
whole (a ∷ b ∷ c ∷ d ∷ ws) = all_four (bytes_eq a.text (codes "table")) (is_mark b (codes "<")) (is_any_mark c) (is_mark d (codes ">")) c.text

-- the name that is seen is that of the table
pub name_seen : (ws : List Word) → name_of (words_seen undefined ws) ≡ table_defined ws
name_seen ws = at_begin ws ∙ whole ws

-- What the code shows of these

pub over_now : (macros : List Macro) (words left : List Word) (d : Defining) (r : Option (List ℕ)) → words_seen d (readable macros left) ≡ words_seen undefined (readable macros words) →
    is_over d.stage ≡ true → r ≡ name_of d → r ≡ table_defined (readable macros words)
over_now macros words left d r h over is = is ∙ ap name_of (sym (stays d (readable macros left) over) ∙ h) ∙ name_seen (readable macros words)

pub ends_now : (macros : List Macro) (words : List Word) (i : ℕ) (d : Defining) (r : Option (List ℕ)) →
    words_seen d (readable macros (drop i words)) ≡ words_seen undefined (readable macros words) → length words ≤ i → r ≡ name_of d → r ≡ table_defined (readable macros words)
ends_now macros words i d r h le is =
    is ∙ ap name_of (sym (at_drop_all (λ ws. words_seen d (readable macros ws)) words i le) ∙ h) ∙ name_seen (readable macros words)

not_all : (all : Bool) (x y : Defining) → all ≡ false → cond all x y ≡ y
not_all true x y e = absurd (true≢false e)
not_all false x y e = refl

pub refused_now : (macros : List Macro) (words : List Word) (i : ℕ) (w : Word) (d new : Defining) (all : Bool) (r : Option (List ℕ)) →
    words_seen d (readable macros (drop i words)) ≡ words_seen undefined (readable macros words) → i < length words → w ≡ get_or words i w →
    ((ws : List Word) → words_seen d (readable macros (w ∷ ws)) ≡ cond all (words_seen new (readable macros ws)) new) → all ≡ false → r ≡ name_of new →
    r ≡ table_defined (readable macros words)
refused_now macros words i w d new all r h lt item step refused is =
    let rest : List Word = drop (i + 1) words in
    is
    ∙ ap name_of (sym (ap (λ x. words_seen d (readable macros (x ∷ rest))) (sym item) ∙ step rest ∙ not_all all (words_seen new (readable macros rest)) new refused)
    ∙ sym (at_drop_more (λ ws. words_seen d (readable macros ws)) words i w lt) ∙ h)
    ∙ name_seen (readable macros words)

-- Pieces of the words of a macro

front_behind : (xs ys rest : List Word) → with_front (xs ++ ys) rest ≡ with_front xs (with_front ys rest)
front_behind [] ys rest = refl
front_behind (x ∷ xs) ys rest = ap (λ (l : List Word). cond (is_sound x) (x ∷ l) []) (front_behind xs ys rest)

pieces_seen : (d : Defining) (all xs ys ws : List Word) → all ≡ xs ++ ys → words_seen d (with_front all ws) ≡ words_seen d (with_front xs (with_front ys ws))
pieces_seen d all xs ys ws e = ap (λ (l : List Word). words_seen d (with_front l ws)) e ∙ ap (words_seen d) (front_behind xs ys ws)

-- the first piece was the last that was taken
pub front_ends : (d new : Defining) (all xs ys : List Word) (taken : Bool) → all ≡ xs ++ ys
    → ((rest : List Word) → words_seen d (with_front xs rest) ≡ cond taken (words_seen new rest) new) → taken ≡ false → (ws : List Word) → words_seen d (with_front all ws) ≡ new
front_ends d new all xs ys taken e h f ws = pieces_seen d all xs ys ws e ∙ h (with_front ys ws) ∙ not_all taken (words_seen new (with_front ys ws)) new f

is_all : (all : Bool) (x y : Defining) → all ≡ true → cond all x y ≡ x
is_all true x y e = refl
is_all false x y e = absurd (true≢false (sym e))

-- both pieces were taken
pub both_seen : (d mid new : Defining) (all xs ys : List Word) (taken : Bool) (r : Result Bool Memory) → all ≡ xs ++ ys
    → ((rest : List Word) → words_seen d (with_front xs rest) ≡ cond taken (words_seen mid rest) mid) → taken ≡ true
    → IfOk r (λ last. (rest : List Word) → words_seen mid (with_front ys rest) ≡ cond last (words_seen new rest) new)
    → IfOk r (λ last. (ws : List Word) → words_seen d (with_front all ws) ≡ cond last (words_seen new ws) new)
both_seen d mid new all xs ys taken (Ok last) e h t k =
    λ ws. pieces_seen d all xs ys ws e ∙ h (with_front ys ws) ∙ is_all taken (words_seen mid (with_front ys ws)) mid t ∙ k ws
both_seen d mid new all xs ys taken (Err memory) e h t k = tt

-- a word that can be judged, and the words for which it stands
pub word_read : (macros : List Macro) (w : Word) (d new : Defining) (r : Result Bool Memory) → is_sound w ≡ true
    → IfOk r (λ all. (ws : List Word) → words_seen d (with_meant (meant macros w) ws) ≡ cond all (words_seen new ws) new)
    → IfOk r (λ all. (ws : List Word) → words_seen d (readable macros (w ∷ ws)) ≡ cond all (words_seen new (readable macros ws)) new)
word_read macros w d new (Ok all) e h =
    λ ws. ap (λ (b : Bool). words_seen d (cond b (with_meant (meant macros w) (readable macros ws)) [])) e ∙ h (readable macros ws)
word_read macros w d new (Err memory) e h = tt

pub use_read : (macros : List Macro) (w : Word) (words : List Word) (d new : Defining) (r : Result Bool Memory) → is_sound w ≡ true → meant macros w ≡ Ok words
    → IfOk r (λ all. (ws : List Word) → words_seen d (with_front words ws) ≡ cond all (words_seen new ws) new)
    → IfOk r (λ all. (ws : List Word) → words_seen d (readable macros (w ∷ ws)) ≡ cond all (words_seen new (readable macros ws)) new)
use_read macros w words d new (Ok all) e m h =
    word_read macros w d new (Ok all) e (λ ws. ap (λ (x : Result (List Word) Cause). words_seen d (with_meant x ws)) m ∙ h ws)
use_read macros w words d new (Err memory) e m h = tt
