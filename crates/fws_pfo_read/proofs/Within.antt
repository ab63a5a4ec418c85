-- Words that belong to a value of a rule and don't end it.
use Rattle.std.proofs.Common.{◌≡◌, ℕ, Bool, true, false, ◌&&◌, not, cond, Option, None, Some, option_and_then, Result, Ok, Err, List, [], ◌∷◌, refl, sym, ap, ◌∙◌, is_some, true≢false}
use Rattle.fws_num.specs.declared.word.Word.{Word}
use Rattle.fws_num.specs.Words.{is_sound}
use Rattle.fws_net.specs.declared.cause.Cause.{Cause}
use Rattle.fws_net.specs.declared.cause.Cause.TheVariants.{Syntax}
use Rattle.fws_net.specs.Reading.{and_then}
use Rattle.fws_pf.specs.declared.rule_draft.Expects.{Expects}
use Rattle.fws_pf.specs.declared.rule_draft.Expects.TheVariants as expect
use Rattle.fws_pf.specs.declared.rule_draft.Place.{Place}
use Rattle.fws_pfo.specs.declared.statement.PfoStatement.{PfoStatement}
use Rattle.fws_pfo.specs.declared.statement.PfoStatement.TheVariants as statements
use Rattle.fws_pf.specs.declared.statement.TableDraft.{TableDraft}
use Rattle.fws_pf.specs.declared.statement.TableExpects.{TableExpects}
use Rattle.fws_pf.specs.declared.statement.TableExpects.TheVariants as tables
use Rattle.fws_pf.specs.declared.value_draft.ValueDraft.{ValueDraft}
use Rattle.fws_pf.specs.RuleText.{value_taken, valued}
use Rattle.fws_pfo.specs.StatementText.{table_expected_step, word_taken, words_taken}
use Rattle.fws_pf.specs.Values.{Setting, has_ended, value_step}
use Rattle.fws_pf_read.specs.Places.{value_place}
use Rattle.fws_pfo.specs.declared.rule_draft.PfoExpects.{PfoExpects}
use Rattle.fws_pfo.specs.declared.rule_draft.PfoExpects.TheVariants as own_expect
use Rattle.fws_pfo.specs.declared.rule_draft.PfoRuleDraft.{PfoRuleDraft}
use Rattle.fws_pfo.specs.Drafts.{with_shared}
use Rattle.fws_pfo.specs.RuleText.{expected_step, shared_step, word_step}
use Rattle.fws_pf_words.specs.Fronts.{going_on, within, word_within}
use Rattle.fws_pfo_read.specs.Views.{is_at_value, is_at_value_by}

-- A word

abbrev with_value : PfoRuleDraft → ValueDraft → PfoStatement
with_value d v = statements.Rule (with_shared (record d.shared { value = v }) d)

none_some : {X : Type 0} (v : ValueDraft) → None ≡ Some v → X
none_some {X = X} v e = absurd (let k : None ≡ Some v = e in cc)

kept_value : (place : Place) (d : PfoRuleDraft) (v new : ValueDraft) (other : Result PfoRuleDraft Cause) (took ended : Bool) → has_ended v.expects ≡ ended
    → cond (took && not ended) (Some v) None ≡ Some new
    → and_then (cond took (Ok (with_shared (cond ended (valued place v d.shared) (record d.shared { value = v })) d)) other) (λ (next : PfoRuleDraft). Ok (statements.Rule next))
    ≡ Ok (with_value d new)
kept_value place d v new other true false e h = ap (λ (x : ValueDraft). Ok (with_value d x)) (let same : v ≡ new = cc in same)
kept_value place d v new other true true e h = none_some new h
kept_value place d v new other false ended e h = none_some new h

value_goes : (setting : Setting) (place : Place) (w : Word) (d : PfoRuleDraft) (r : Result (ValueDraft × Bool) Cause) (new : ValueDraft) → going_on r ≡ Some new
    → and_then (and_then r (λ next. cond next.1 (Ok (with_shared (value_taken place next.0 d.shared) d)) (word_step setting w (with_shared (valued place next.0 d.shared) d))))
    (λ (next : PfoRuleDraft). Ok (statements.Rule next))
    ≡ Ok (with_value d new)
value_goes setting place w d (Ok next) new h =
    kept_value place d next.0 new (word_step setting w (with_shared (valued place next.0 d.shared) d)) next.1 (has_ended next.0.expects) refl h
value_goes setting place w d (Err cause) new h = none_some new h

sound_goes : (b : Bool) (o : Option ValueDraft) (r : Result PfoStatement Cause) (cause : Cause) (d : PfoRuleDraft) (new : ValueDraft) → cond b o None ≡ Some new
    → (o ≡ Some new → r ≡ Ok (with_value d new)) → cond b r (Err cause) ≡ Ok (with_value d new)
sound_goes true o r cause d new h f = f h
sound_goes false o r cause d new h f = none_some new h

word_goes : (setting : Setting) (tags : List (List ℕ)) (w : Word) (place : Place) (d : PfoRuleDraft) (new : ValueDraft) → d.expects ≡ own_expect.Shared
    → d.shared.expects ≡ expect.Value place → word_within setting w d.shared.value ≡ Some new → word_taken setting tags w (statements.Rule d) ≡ Ok (with_value d new)
word_goes setting tags w place d new own at h =
    sound_goes (is_sound w) (going_on (value_step setting w d.shared.value)) _ _ d new h
    (λ g.
    ap (λ (e : PfoExpects). and_then (expected_step setting e w d) (λ (next : PfoRuleDraft). Ok (statements.Rule next))) own
    ∙ ap (λ (e : Expects). and_then (shared_step setting e w d) (λ (next : PfoRuleDraft). Ok (statements.Rule next))) at
    ∙ value_goes setting place w d (value_step setting w d.shared.value) new g)

-- Words

words_next : (setting : Setting) (tags : List (List ℕ)) (ws : List Word) (d : PfoRuleDraft) (w : Word) (o : Option ValueDraft) (new : ValueDraft)
    → option_and_then (within setting ws) o ≡ Some new
    → ((v : ValueDraft) → o ≡ Some v → word_taken setting tags w (statements.Rule d) ≡ Ok (with_value d v))
    → ((v : ValueDraft) → within setting ws v ≡ Some new → words_taken setting tags ws (with_value d v) ≡ Ok (with_value d new))
    → and_then (word_taken setting tags w (statements.Rule d)) (words_taken setting tags ws) ≡ Ok (with_value d new)
words_next setting tags ws d w (Some v) new h f g = ap (λ r. and_then r (words_taken setting tags ws)) (f v refl) ∙ g v h
words_next setting tags ws d w None new h f g = none_some new h

words_go : (setting : Setting) (tags : List (List ℕ)) (ws : List Word) (place : Place) (d : PfoRuleDraft) (new : ValueDraft) → d.expects ≡ own_expect.Shared
    → d.shared.expects ≡ expect.Value place → within setting ws d.shared.value ≡ Some new → words_taken setting tags ws (statements.Rule d) ≡ Ok (with_value d new)
words_go setting tags [] place d new own at h = ap (λ (v : ValueDraft). Ok (with_value d v)) (let same : d.shared.value ≡ new = cc in same)
words_go setting tags (w ∷ ws) place d new own at h =
    words_next setting tags ws d w (word_within setting w d.shared.value) new h (λ v o. word_goes setting tags w place d v own at o)
    (λ v k. words_go setting tags ws place (with_shared (record d.shared { value = v }) d) new own at k)

-- a value is known by its place
at_place : (e : Expects) → is_some (value_place e) ≡ true → (place : Place) × (e ≡ expect.Value place)
at_place (expect.Value place) h = (place, refl)
at_place expect.Answer h = absurd (true≢false (sym h))
at_place expect.Way h = absurd (true≢false (sym h))
at_place expect.Log h = absurd (true≢false (sym h))
at_place expect.Logged h = absurd (true≢false (sym h))
at_place expect.LogAll h = absurd (true≢false (sym h))
at_place expect.LogEnd h = absurd (true≢false (sym h))
at_place expect.Quick h = absurd (true≢false (sym h))
at_place expect.Past h = absurd (true≢false (sym h))
at_place expect.On h = absurd (true≢false (sym h))
at_place expect.Inet h = absurd (true≢false (sym h))
at_place expect.Proto h = absurd (true≢false (sym h))
at_place expect.Hosts h = absurd (true≢false (sym h))
at_place expect.SourcePorts h = absurd (true≢false (sym h))
at_place expect.To h = absurd (true≢false (sym h))
at_place expect.DestinationPorts h = absurd (true≢false (sym h))
at_place expect.Option h = absurd (true≢false (sym h))
at_place (expect.State keeps) h = absurd (true≢false (sym h))
at_place expect.Flags h = absurd (true≢false (sym h))
at_place expect.TagName h = absurd (true≢false (sym h))
at_place expect.NotTagged h = absurd (true≢false (sym h))
at_place (expect.TaggedName asked) h = absurd (true≢false (sym h))
at_place expect.Label h = absurd (true≢false (sym h))
at_place expect.Tagged h = absurd (true≢false (sym h))
at_place expect.Arrow h = absurd (true≢false (sym h))
at_place expect.Target h = absurd (true≢false (sym h))
at_place expect.TargetName h = absurd (true≢false (sym h))
at_place expect.TargetEnd h = absurd (true≢false (sym h))
at_place expect.Bitmask h = absurd (true≢false (sym h))
at_place expect.Targeted h = absurd (true≢false (sym h))
at_place expect.TargetPort h = absurd (true≢false (sym h))
at_place expect.Ended h = absurd (true≢false (sym h))

at_value : (e : PfoExpects) (d : PfoRuleDraft) → is_at_value_by e d ≡ true → (e ≡ own_expect.Shared) × (is_some (value_place d.shared.expects) ≡ true)
at_value own_expect.Shared d h = (refl, h)
at_value own_expect.Scrub d h = absurd (true≢false (sym h))
at_value own_expect.Scrubbed d h = absurd (true≢false (sym h))

-- words of a rule at a value
pub rule_words : (setting : Setting) (ws : List Word) (d new : PfoRuleDraft) (v : ValueDraft) → is_at_value d ≡ true → within setting ws d.shared.value ≡ Some v
    → new ≡ with_shared (record d.shared { value = v }) d → (tags : List (List ℕ)) → words_taken setting tags ws (statements.Rule d) ≡ Ok (statements.Rule new)
rule_words setting ws d new v at h n tags =
    let shared = at_value d.expects d at in
    let place = at_place d.shared.expects shared.1 in
    words_go setting tags ws place.0 d v shared.0 place.1 h ∙ ap (λ (x : PfoRuleDraft). Ok (statements.Rule x)) (sym n)

-- Words of a table, and of interfaces that are skipped

abbrev step_of : ValueDraft → Bool → Result (ValueDraft × Bool) Cause
step_of v took = Ok (v, took)

goes_as : (v new : ValueDraft) (took ended : Bool) → cond (took && not ended) (Some v) None ≡ Some new → step_of v took ≡ step_of new true
goes_as v new true false h = ap (λ (x : ValueDraft). step_of x true) (let same : v ≡ new = cc in same)
goes_as v new true true h = none_some new h
goes_as v new false ended h = none_some new h

goes_on : (r : Result (ValueDraft × Bool) Cause) (new : ValueDraft) → going_on r ≡ Some new → r ≡ Ok (new, true)
goes_on (Ok next) new h = goes_as next.0 new next.1 (has_ended next.0.expects) h
goes_on (Err cause) new h = none_some new h

by_sound : (b : Bool) (o : Option ValueDraft) (r end : Result PfoStatement Cause) (cause : Cause) (new : ValueDraft) → cond b o None ≡ Some new
    → (o ≡ Some new → r ≡ end) → cond b r (Err cause) ≡ end
by_sound true o r end cause new h f = f h
by_sound false o r end cause new h f = none_some new h

table_word : (setting : Setting) (tags : List (List ℕ)) (w : Word) (d : TableDraft) (new : ValueDraft) → d.expects ≡ tables.Members
    → word_within setting w d.members ≡ Some new → word_taken setting tags w (statements.Table d) ≡ Ok (statements.Table (record d { members = new }))
table_word setting tags w d new at h =
    by_sound (is_sound w) (going_on (value_step setting w d.members)) _ (Ok (statements.Table (record d { members = new }))) _ new h
    (λ g.
    ap (λ (e : TableExpects). and_then (table_expected_step setting e w d) (λ (next : TableDraft). Ok (statements.Table next))) at
    ∙ ap (λ (r : Result (ValueDraft × Bool) Cause). and_then (and_then r (λ next. cond next.1 (Ok (record d { members = next.0 })) (Err Syntax))) (λ (next : TableDraft). Ok (statements.Table next)))
    (goes_on (value_step setting w d.members) new g))

skip_word : (setting : Setting) (tags : List (List ℕ)) (w : Word) (v new : ValueDraft)
    → word_within setting w v ≡ Some new → word_taken setting tags w (statements.SkipOn v) ≡ Ok (statements.SkipOn new)
skip_word setting tags w v new h =
    by_sound (is_sound w) (going_on (value_step setting w v)) _ (Ok (statements.SkipOn new)) _ new h
    (λ g.
    ap (λ (r : Result (ValueDraft × Bool) Cause). and_then r (λ next. cond next.1 (Ok (statements.SkipOn next.0)) (Err Syntax)))
    (goes_on (value_step setting w v) new g))

next_goes : (setting : Setting) (tags : List (List ℕ)) (ws : List Word) (s end : PfoStatement) (w : Word) (f : ValueDraft → PfoStatement) (o : Option ValueDraft) (new : ValueDraft)
    → option_and_then (within setting ws) o ≡ Some new → ((v : ValueDraft) → o ≡ Some v → word_taken setting tags w s ≡ Ok (f v))
    → ((v : ValueDraft) → within setting ws v ≡ Some new → words_taken setting tags ws (f v) ≡ Ok end)
    → and_then (word_taken setting tags w s) (words_taken setting tags ws) ≡ Ok end
next_goes setting tags ws s end w f (Some v) new h g k = ap (λ r. and_then r (words_taken setting tags ws)) (g v refl) ∙ k v h
next_goes setting tags ws s end w f None new h g k = none_some new h

table_words_go : (setting : Setting) (tags : List (List ℕ)) (ws : List Word) (d : TableDraft) (new : ValueDraft) → d.expects ≡ tables.Members
    → within setting ws d.members ≡ Some new → words_taken setting tags ws (statements.Table d) ≡ Ok (statements.Table (record d { members = new }))
table_words_go setting tags [] d new at h = ap (λ (v : ValueDraft). Ok (statements.Table (record d { members = v }))) (let same : d.members ≡ new = cc in same)
table_words_go setting tags (w ∷ ws) d new at h =
    next_goes setting tags ws (statements.Table d) (statements.Table (record d { members = new })) w (λ (v : ValueDraft). statements.Table (record d { members = v }))
    (word_within setting w d.members) new h (λ v o. table_word setting tags w d v at o) (λ v k. table_words_go setting tags ws (record d { members = v }) new at k)

-- words of a table at its list
pub table_words : (setting : Setting) (ws : List Word) (d new : TableDraft) (v : ValueDraft) → d.expects ≡ tables.Members → within setting ws d.members ≡ Some v
    → new ≡ record d { members = v } → (tags : List (List ℕ)) → words_taken setting tags ws (statements.Table d) ≡ Ok (statements.Table new)
table_words setting ws d new v at h n tags = table_words_go setting tags ws d v at h ∙ ap (λ (x : TableDraft). Ok (statements.Table x)) (sym n)

-- words of interfaces that are skipped
pub skip_words : (setting : Setting) (ws : List Word) (v new : ValueDraft) → within setting ws v ≡ Some new → (tags : List (List ℕ))
    → words_taken setting tags ws (statements.SkipOn v) ≡ Ok (statements.SkipOn new)
skip_words setting [] v new h tags = ap (λ (x : ValueDraft). Ok (statements.SkipOn x)) (let same : v ≡ new = cc in same)
skip_words setting (w ∷ ws) v new h tags =
    next_goes setting tags ws (statements.SkipOn v) (statements.SkipOn new) w (λ (x : ValueDraft). statements.SkipOn x)
    (word_within setting w v) new h (λ x o. skip_word setting tags w v x o) (λ x k. skip_words setting ws x new k tags)
