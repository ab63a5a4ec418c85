-- What holds of a rule, word by word: of what both dialects have of it, what holds in FreeBSD's pf.
use Rattle.std.proofs.Common.{◌≡◌, ℕ, Bool, true, false, ◌&&◌, ◌||◌, not, cond, Option, Some, None, is_some, Result, Ok, Err, List, [], length, codes, bytes_eq, IfOk, IfSome, refl, sym, subst}
use Rattle.std.proofs.lemmas.Bool.{cond_both}
use Rattle.fws_num.specs.declared.word.Word.{Word}
use Rattle.fws_num.specs.Numbers.{split_once}
use Rattle.fws_net.specs.declared.cause.Cause.{Cause}
use Rattle.fws_net.specs.declared.cause.Cause.TheVariants.{Syntax, LeftOut}
use Rattle.fws_net.specs.declared.condition.Test.TheVariants as tests
use Rattle.fws_net.specs.declared.site.Site.{Site}
use Rattle.fws_pf.specs.declared.rule_draft.Expects.{Expects}
use Rattle.fws_pf.specs.declared.rule_draft.Expects.TheVariants as expect
use Rattle.fws_pf.specs.declared.rule_draft.Place.{Place}
use Rattle.fws_pf.specs.declared.rule_draft.Place.TheVariants as places
use Rattle.fws_pf.specs.declared.rule_draft.RuleDraft.{RuleDraft}
use Rattle.fws_pf.specs.declared.rule_draft.Target.{Target}
use Rattle.fws_pf.specs.declared.rule_draft.Verb.TheVariants as verbs
use Rattle.fws_pf.specs.declared.value_draft.ValueDraft.{ValueDraft}
use Rattle.fws_pf.specs.Drafts.{expecting, is}
use Rattle.fws_pf.specs.Drawn.{early, is_open, last_valued}
use Rattle.fws_pf.specs.RuleText.{choice_of, rule_step as pf_rule_step, value_taken, valued}
use Rattle.fws_pf.specs.Statements.{is_mark}
use Rattle.fws_pf.specs.TargetText.{bitmask_of, face_target, kept_static, mapped, may_be_mapped, with_target}
use Rattle.fws_pf.specs.Values.{Setting, begins_with_digit, ended_value, has_ended, value_step}
use Rattle.fws_pf.proofs.Crossed.{choice_may, items_may}
use Rattle.fws_pf.proofs.Lists.{all_longer}
use Rattle.fws_pf.proofs.Outcomes.{any_holds, then_holds, then_known, either_holds, found_holds, known_holds}
use Rattle.fws_pf.proofs.Readings.{ReadsProtocols, protocols_read, ended_reads}
use Rattle.fws_pf.proofs.RuleWords.{Known as PfKnown, Begun as PfBegun, fresh_known as pf_fresh_known, rule_goes_on as pf_rule_goes_on}
use Rattle.fws_pfo.specs.declared.config.PfoKind.{PfoKind}
use Rattle.fws_pfo.specs.declared.config.PfoKind.TheVariants as kinds
use Rattle.fws_pfo.specs.declared.rule_draft.PfoExpects.{PfoExpects}
use Rattle.fws_pfo.specs.declared.rule_draft.PfoExpects.TheVariants as own
use Rattle.fws_pfo.specs.declared.rule_draft.PfoRuleDraft.{PfoRuleDraft}
use Rattle.fws_pfo.specs.Drafts.{going, is_block, is_inward, is_outward, lifted, with_shared}
use Rattle.fws_pfo.specs.Drawn.{may_end, rule_ended}
use Rattle.fws_pfo.specs.Keywords.{is_different, misplaced}
use Rattle.fws_pfo.specs.RuleText.{closed_step, expected_step, fresh_rule, is_unmatched, keyword_step, open_step, option_step, rule_step, scrub_begun, shared_step, targeted_step, value_word_step, wants_keyword, word_step}
use Rattle.fws_pfo.specs.TargetText.{bare_first, bitmask_step, destination_targeted, end_begun, first_target, goes_past_port, mask_step, named_first, port_begun, source_targeted, target_name_step, target_step, targeted_by, targeting}

abbrev pub Known : ℕ → PfoRuleDraft → Type 0
Known before d = PfKnown before d.shared

abbrev pub Begun : ℕ → PfoRuleDraft → Type 0
Begun before d = PfBegun before d.shared

any_some : {A : Type 0} (o : Option A) → IfSome o (λ x. Unit {0})
any_some None = tt
any_some (Some x) = tt

module _ (before : ℕ) where
  abbrev Step : Result PfoRuleDraft Cause → Type 0
  Step r = IfOk r (Begun before)

  abbrev SharedStep : Result RuleDraft Cause → Type 0
  SharedStep r = IfOk r (PfBegun before)

  -- a step to one of two
  either : (b : Bool) (r s : Result PfoRuleDraft Cause) → Step r → Step s → Step (cond b r s)
  either b r s h k = either_holds (Begun before) b r s (λ e. h) (λ e. k)

  either_shared : (b : Bool) (r s : Result RuleDraft Cause) → SharedStep r → SharedStep s → SharedStep (cond b r s)
  either_shared b r s h k = either_holds (PfBegun before) b r s (λ e. h) (λ e. k)

  lifted_begun : (r : Result RuleDraft Cause) (d : PfoRuleDraft) → SharedStep r → Step (lifted r d)
  lifted_begun r d h = then_known (PfBegun before) (Begun before) r (λ shared. Ok (with_shared shared d)) h (λ shared k. k)

  shared_begun : (setting : Setting) (w : Word) (d : PfoRuleDraft) → Begun before d → Step (lifted (pf_rule_step setting w d.shared) d)
  shared_begun setting w d h = lifted_begun (pf_rule_step setting w d.shared) d (pf_rule_goes_on before setting w d.shared h)

  -- Options

  end_begins : (is_along : Bool) (d : PfoRuleDraft) → Known before d → Step (end_begun is_along d)
  end_begins is_along d h =
      either (is_block d.kind || not is_along) (Err LeftOut) _ tt (either (is_some d.shared.target) (Err Syntax) (going expect.Target d) tt (h, tt))

  scrub_begins : (d : PfoRuleDraft) → Known before d → Step (scrub_begun d)
  scrub_begins d h =
      either d.has_scrub (Err Syntax) (Ok (record d { expects = own.Scrub; has_scrub = true; shared = expecting expect.Option d.shared })) tt (h, tt)

  keyword_begun : (setting : Setting) (w : Word) (d : PfoRuleDraft) → Begun before d → Step (keyword_step setting w d)
  keyword_begun setting w d h = either (is_different w.text) (Err (misplaced w.text)) (lifted (pf_rule_step setting w d.shared) d) tt (shared_begun setting w d h)

  open_begun : (setting : Setting) (w : Word) (d : PfoRuleDraft) → Begun before d → Step (open_step setting w d)
  open_begun setting w d h =
      either (is w (codes "nat-to")) (end_begun (is_outward d.shared.way) d) _ (end_begins (is_outward d.shared.way) d h.0)
      (either (is w (codes "rdr-to")) (end_begun (is_inward d.shared.way) d) _ (end_begins (is_inward d.shared.way) d h.0)
      (either (is w (codes "scrub")) (scrub_begun d) _ (scrub_begins d h.0)
      (either (is_unmatched w d) (Err LeftOut) (keyword_step setting w d) tt (keyword_begun setting w d h))))

  option_step_begun : (setting : Setting) (w : Word) (d : PfoRuleDraft) → Known before d → Step (option_step setting w d)
  option_step_begun setting w d h = open_begun setting w (with_shared (expecting expect.Option d.shared) d) (h, tt)

  -- Targets

  named_begun : (site : Site) (next : Expects) (other : Result PfoRuleDraft Cause) (d : PfoRuleDraft) (halves : List ℕ × List ℕ) → Step other
      → ((t : Target) → PfBegun before (with_target t next d.shared)) → Step (named_first site next other d halves)
  named_begun site next other d halves o k =
      either (bytes_eq halves.1 (codes "0")) (first_target site next halves.0 d) other
      (then_holds (Begun before) (face_target site halves.0) (λ target. Ok (with_shared (with_target target next d.shared) d)) k) o

  target_name_begun : (setting : Setting) (w : Word) (d : PfoRuleDraft) → Begun before d → Step (target_name_step setting w d)
  target_name_begun setting w d h =
      let other = lifted (pf_rule_step setting w d.shared) d in
      found_holds (Begun before) (split_once 58 w.text) (named_first setting.site expect.TargetEnd other d) other
      (λ halves. named_begun setting.site expect.TargetEnd other d halves (shared_begun setting w d h) (λ t. (h.0, tt))) (shared_begun setting w d h)

  target_begun : (setting : Setting) (w : Word) (d : PfoRuleDraft) → Begun before d → Step (target_step setting w d)
  target_begun setting w d h =
      let other = lifted (pf_rule_step setting w d.shared) d in
      found_holds (Begun before) (split_once 58 w.text) (bare_first setting.site other d) other
      (λ halves.
      either (begins_with_digit halves.0 && bytes_eq halves.1 (codes "0")) (Err Syntax) (named_first setting.site expect.Targeted other d halves) tt
      (named_begun setting.site expect.Targeted other d halves (shared_begun setting w d h) (λ t. (h.0, tt))))
      (shared_begun setting w d h)

  source_mask : (w : Word) (d : RuleDraft) → PfKnown before d → (t : Target) → SharedStep (bitmask_of verbs.Nat w d t)
  source_mask w d h t =
      either_shared (is w (codes "bitmask")) (Ok (with_target (mapped t) expect.Targeted d)) _ (h, tt)
      (either_shared (is w (codes "static-port") && not t.is_static) (Ok (with_target (kept_static t) expect.Bitmask d)) (Err LeftOut) (h, tt) tt)

  destination_mask : (w : Word) (d : RuleDraft) → PfKnown before d → (t : Target) → SharedStep (bitmask_of verbs.Rdr w d t)
  destination_mask w d h t = either_shared (is w (codes "bitmask")) (Ok (with_target (mapped t) expect.Targeted d)) (Err LeftOut) (h, tt) tt

  mask_begun : (w : Word) (d : PfoRuleDraft) → Known before d → (t : Target) → SharedStep (mask_step w d t)
  mask_begun w d h t =
      either_shared (is_outward d.shared.way) (bitmask_of verbs.Nat w d.shared t) (bitmask_of verbs.Rdr w d.shared t)
      (source_mask w d.shared h t) (destination_mask w d.shared h t)

  bitmask_begun : (w : Word) (d : PfoRuleDraft) → Known before d → Step (bitmask_step w d)
  bitmask_begun w d h =
      found_holds (Begun before) d.shared.target (λ t. lifted (mask_step w d t) d) (Err Syntax) (λ t. lifted_begun (mask_step w d t) d (mask_begun w d h t)) tt

  source_begun : (other : Result PfoRuleDraft Cause) (w : Word) (d : PfoRuleDraft) → Step other → Known before d → (t : Target) → Step (source_targeted other w d t)
  source_begun other w d o h t =
      either (is w (codes "port")) (Err LeftOut) _ tt
      (either (is w (codes "static-port") && not t.is_static) (targeting (kept_static t) d) _ (h, tt)
      (either (is w (codes "bitmask") && may_be_mapped t) (targeting (mapped t) d) other (h, tt) o))

  destination_begun : (other : Result PfoRuleDraft Cause) (w : Word) (d : PfoRuleDraft) → Step other → Known before d → (t : Target)
      → Step (destination_targeted other w d t)
  destination_begun other w d o h t =
      either (is w (codes "port")) (port_begun t d) _ (either t.is_mapped (Err LeftOut) (going expect.TargetPort d) tt (h, tt))
      (either (is w (codes "bitmask") && may_be_mapped t) (targeting (mapped t) d) other (h, tt) o)

  targeted_begun : (setting : Setting) (w : Word) (d : PfoRuleDraft) → Known before d → Step (targeted_step setting w d)
  targeted_begun setting w d h =
      let other = option_step setting w d in
      let o = option_step_begun setting w d h in
      found_holds (Begun before) d.shared.target (targeted_by (is_outward d.shared.way) other w d) (Err Syntax)
      (λ t. either (is_outward d.shared.way) (source_targeted other w d t) (destination_targeted other w d t) (source_begun other w d o h t) (destination_begun other w d o h t))
      tt

  -- Words

  closed_begun : (setting : Setting) (next : Expects) (w : Word) (d : PfoRuleDraft) → Begun before d → Step (closed_step setting next w d)
  closed_begun setting expect.Target w d h = target_begun setting w d h
  closed_begun setting expect.TargetName w d h = target_name_begun setting w d h
  closed_begun setting expect.Bitmask w d h = bitmask_begun w d h.0
  closed_begun setting expect.Targeted w d h = targeted_begun setting w d h.0
  closed_begun setting expect.Ended w d h = either (goes_past_port w) (Err LeftOut) (option_step setting w d) tt (option_step_begun setting w d h.0)
  closed_begun setting _ w d h = shared_begun setting w d h

  word_begun : (setting : Setting) (w : Word) (d : PfoRuleDraft) → Begun before d → Step (word_step setting w d)
  word_begun setting w d h =
      either (is_open d.shared.expects) (open_step setting w d) _ (open_begun setting w d h)
      (either (wants_keyword d.shared.expects) (keyword_step setting w d) (closed_step setting d.shared.expects w d) (keyword_begun setting w d h)
      (closed_begun setting d.shared.expects w d h))

  -- Values

  -- what is known of a rule at the value of a place, and of the value
  abbrev Here : Place → RuleDraft → Type 0
  Here places.Proto d = ReadsProtocols d.value
  Here places.IcmpType d = d.has_icmp_type ≡ true
  Here _ d = Unit {0}

  abbrev Reading : Place → ValueDraft → Type 0
  Reading places.Proto v = ReadsProtocols v
  Reading _ v = Unit {0}

  here_at : (place : Place) (d : RuleDraft) → d.expects ≡ expect.Value place → PfBegun before d → Here place d
  here_at places.Proto d same h = (subst (λ (e : Expects). PfBegun before (record d { expects = e })) same h).1
  here_at places.IcmpType d same h = (subst (λ (e : Expects). PfBegun before (record d { expects = e })) same h).1
  here_at places.On d same h = tt
  here_at places.Source d same h = tt
  here_at places.SourcePort d same h = tt
  here_at places.Destination d same h = tt
  here_at places.DestinationPort d same h = tt

  reading_goes_on : (setting : Setting) (place : Place) (w : Word) (d : RuleDraft) → Here place d → IfOk (value_step setting w d.value) (λ next. Reading place next.0)
  reading_goes_on setting places.Proto w d here = protocols_read setting w d.value here
  reading_goes_on setting _ w d here = any_holds (value_step setting w d.value)

  valued_known : (place : Place) (v : ValueDraft) (d : RuleDraft) → PfKnown before d → Here place d → Reading place v → PfKnown before (valued place v d)
  valued_known places.Proto v d h here read = record { grown = h.grown; protocols_one = read.items; options_may = h.options_may; tag_known = h.tag_known }
  valued_known places.IcmpType v d h here read =
      record {
        grown = h.grown;
        protocols_one = h.protocols_one;
        options_may =
            all_longer (choice_may false d.has_icmp_type (length d.tags)) d.options (choice_of [] tests.Icmp v.items) h.options_may
            (items_may false d.has_icmp_type (length d.tags) [] tests.Icmp (λ set. here) v.items);
        tag_known = h.tag_known;
      }
  valued_known places.On v d h here read = h
  valued_known places.Source v d h here read = h
  valued_known places.SourcePort v d h here read = h
  valued_known places.Destination v d h here read = h
  valued_known places.DestinationPort v d h here read = h

  valued_begun : (place : Place) (v : ValueDraft) (d : RuleDraft) → PfKnown before (valued place v d) → PfBegun before (valued place v d)
  valued_begun places.Proto v d h = (h, tt)
  valued_begun places.IcmpType v d h = (h, tt)
  valued_begun places.On v d h = (h, tt)
  valued_begun places.Source v d h = (h, tt)
  valued_begun places.SourcePort v d h = (h, tt)
  valued_begun places.Destination v d h = (h, tt)
  valued_begun places.DestinationPort v d h = (h, tt)

  value_stays : (place : Place) (v : ValueDraft) (d : RuleDraft) → d.expects ≡ expect.Value place → PfKnown before d → Here place d → Reading place v
      → PfBegun before (record d { value = v })
  value_stays place v d same h here read =
      subst (λ (e : Expects). PfBegun before (record d { expects = e; value = v })) (sym same) (at_place place h here read)
    where
      at_place : (p : Place) → PfKnown before d → Here p d → Reading p v → PfBegun before (record d { expects = expect.Value p; value = v })
      at_place places.Proto h here read = (h, read)
      at_place places.IcmpType h here read = (h, here)
      at_place places.On h here read = (h, tt)
      at_place places.Source h here read = (h, tt)
      at_place places.SourcePort h here read = (h, tt)
      at_place places.Destination h here read = (h, tt)
      at_place places.DestinationPort h here read = (h, tt)

  value_word_begun : (setting : Setting) (place : Place) (w : Word) (d : PfoRuleDraft) → d.shared.expects ≡ expect.Value place → Known before d → Here place d.shared
      → Step (value_word_step setting place w d)
  value_word_begun setting place w d same h here =
      then_known (λ next. Reading place next.0) (Begun before) (value_step setting w d.shared.value) _ (reading_goes_on setting place w d.shared here)
      (λ next read.
      let valued_there = valued_begun place next.0 d.shared (valued_known place next.0 d.shared h here read) in
      either next.1 (Ok (with_shared (value_taken place next.0 d.shared) d)) (word_step setting w (with_shared (valued place next.0 d.shared) d))
      (cond_both (has_ended next.0.expects) (valued place next.0 d.shared) (record d.shared { value = next.0 }) (PfBegun before) (λ e. valued_there)
      (λ e. value_stays place next.0 d.shared same h here read))
      (word_begun setting w (with_shared (valued place next.0 d.shared) d) valued_there))

  shared_step_begun : (setting : Setting) (next : Expects) (w : Word) (d : PfoRuleDraft) → d.shared.expects ≡ next → Begun before d → Step (shared_step setting next w d)
  shared_step_begun setting (expect.Value place) w d same h = value_word_begun setting place w d same h.0 (here_at place d.shared same h)
  shared_step_begun setting _ w d same h = word_begun setting w d h

  own_step_begun : (setting : Setting) (next : PfoExpects) (w : Word) (d : PfoRuleDraft) → Begun before d → Step (expected_step setting next w d)
  own_step_begun setting own.Shared w d h = shared_step_begun setting d.shared.expects w d refl h
  own_step_begun setting own.Scrub w d h = either (is_mark w (codes "(")) (Ok (record d { expects = own.Scrubbed })) (Err Syntax) h tt
  own_step_begun setting own.Scrubbed w d h =
      cond_both (is_mark w (codes ")")) (record d { expects = own.Shared }) d (Begun before) (λ e. h) (λ e. h)

  pub rule_goes_on : (setting : Setting) (w : Word) (d : PfoRuleDraft) → Begun before d → IfOk (rule_step setting w d) (Begun before)
  rule_goes_on setting w d h = own_step_begun setting d.expects w d h

  -- The end of the words

  value_ends : (place : Place) (d : RuleDraft) → Here place d → IfSome (ended_value d.value.expects d.value) (Reading place)
  value_ends places.Proto d here = ended_reads _ _ _ d.value here
  value_ends places.IcmpType d here = any_some (ended_value d.value.expects d.value)
  value_ends places.On d here = any_some (ended_value d.value.expects d.value)
  value_ends places.Source d here = any_some (ended_value d.value.expects d.value)
  value_ends places.SourcePort d here = any_some (ended_value d.value.expects d.value)
  value_ends places.Destination d here = any_some (ended_value d.value.expects d.value)
  value_ends places.DestinationPort d here = any_some (ended_value d.value.expects d.value)

  last_known : (next : Expects) (d : RuleDraft) → d.expects ≡ next → PfBegun before d → IfOk (last_valued next d) (PfKnown before)
  last_known (expect.Value place) d same h =
      let here = here_at place d same h in
      known_holds (Reading place) (PfKnown before) (ended_value d.value.expects d.value) (λ v. Ok (valued place v d)) (Err Syntax) (value_ends place d here)
      (λ v read. valued_known place v d h.0 here read) tt
  last_known _ d same h = h.0

  pub rule_ends : (d : PfoRuleDraft) → Begun before d → IfOk (rule_ended d) (Known before)
  rule_ends d h =
      then_known (PfKnown before) (Known before) (last_valued d.shared.expects d.shared) _ (last_known d.shared.expects d.shared refl h)
      (λ shared k.
      let whole = with_shared shared d in
      either_holds (Known before) (may_end whole) (Ok whole) (Err (early shared.expects)) (λ on. k) (λ off. tt))

-- a rule begins with the tags that there are
pub fresh_known : (kind : PfoKind) (tags : List (List ℕ)) → Begun (length tags) (fresh_rule kind tags)
fresh_known kinds.Pass tags = (pf_fresh_known verbs.Pass false expect.Way tags, tt)
fresh_known kinds.Block tags = (pf_fresh_known verbs.Block false expect.Answer tags, tt)
fresh_known kinds.Match tags = (pf_fresh_known verbs.Block false expect.Way tags, tt)
