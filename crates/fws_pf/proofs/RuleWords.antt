-- What holds of a rule, word by word.
use Rattle.std.proofs.Common.{◌≡◌, ℕ, suc, ◌≤◌, ◌<◌, Bool, true, false, ◌&&◌, not, cond, nat_eq, nat_lt, bit_and, Option, Some, None, Result, Ok, Err, List, [], ◌∷◌, ◌++◌, length, codes, bytes_eq, IfOk, IfSome, arith, refl, sym, subst, length-append, ⊎_elim}
use Rattle.std.specs.List.{list_all, list_any}
use Rattle.std.specs.Option.{option_map_or}
use Rattle.std.proofs.lemmas.Bool.{false≢true, both_ways, and_from, or_cases, cond_both, lt-ltb}
use Rattle.fws_num.specs.declared.word.Word.{Word}
use Rattle.fws_num.specs.Numbers.{prefix_of, quad_of, split_once}
use Rattle.fws_net.specs.declared.cause.Cause.{Cause}
use Rattle.fws_net.specs.declared.cause.Cause.TheVariants.{Syntax, LeftOut}
use Rattle.fws_net.specs.declared.condition.Test.{Test}
use Rattle.fws_net.specs.declared.condition.Test.TheVariants as tests
use Rattle.fws_net.specs.declared.site.Site.{Site}
use Rattle.fws_net.specs.Reading.{and_then}
use Rattle.fws_rules.specs.Literals.{positive}
use Rattle.fws_pf.specs.declared.config.Way.TheVariants as ways
use Rattle.fws_pf.specs.declared.rule_draft.Choice.{Choice}
use Rattle.fws_pf.specs.declared.rule_draft.Expects.{Expects}
use Rattle.fws_pf.specs.declared.rule_draft.Expects.TheVariants as expect
use Rattle.fws_pf.specs.declared.rule_draft.Place.{Place}
use Rattle.fws_pf.specs.declared.rule_draft.Place.TheVariants as places
use Rattle.fws_pf.specs.declared.rule_draft.RuleDraft.{RuleDraft}
use Rattle.fws_pf.specs.declared.rule_draft.Target.{Target}
use Rattle.fws_pf.specs.declared.rule_draft.Verb.{Verb}
use Rattle.fws_pf.specs.declared.rule_draft.Verb.TheVariants as verbs
use Rattle.fws_pf.specs.declared.value_draft.Item.{Item}
use Rattle.fws_pf.specs.declared.value_draft.ValueDraft.{ValueDraft}
use Rattle.fws_pf.specs.declared.words.OptionWord.{OptionWord}
use Rattle.fws_pf.specs.declared.words.OptionWord.TheVariants as options
use Rattle.fws_pf.specs.Drafts.{going, is, is_translation, misplaced_word, passes}
use Rattle.fws_pf.specs.Drawn.{early, last_valued, may_end, rule_ended}
use Rattle.fws_pf.specs.Keywords.{misplaced, option_word}
use Rattle.fws_pf.specs.RuleText.{fresh_rule, behind, asking, choice_of, only, with_items, valued, value_taken, is_flag_letter, is_congestion, with_flags, flags_within, flags_between, flags_test, with_flags_test, flags_step, with_name, place_of, behind_tag, behind_tagged, tag_name_step, tag_literals, tagged_name_step, once, state_begun, option_begun, filter_option_step, not_tagged_step, state_step, arrow_step, tagged_step, translation_option_step, option_step, destination_ports_step, to_step, source_ports_step, hosts_step, proto_step, inet_step, on_step, quick_step, logged_step, log_step, way_step, answers, answer_step, past_step, word_step, value_word_step, expected_step, rule_step}
use Rattle.fws_pf.specs.Soundness.{tag_fits}
use Rattle.fws_pf.specs.Statements.{is_mark}
use Rattle.fws_pf.specs.TargetText.{with_target, network_target, named_target, name_target, target_word, target_step, target_name_step, mapped, kept_static, bitmask_of, bitmask_step, may_be_mapped, is_complete, rdr_targeted, nat_targeted, targeted_by, targeted_step, with_port, target_port, target_port_step}
use Rattle.fws_pf.specs.Values.{Setting, begins_with_digit, modified, is_any_mark, has_ended, value_step, ended_value}
use Rattle.fws_pf.proofs.Crossed.{choice_may, below_more, choice_more, choices_more, items_may, one_protocol}
use Rattle.fws_pf.proofs.Lists.{all_longer}
use Rattle.fws_pf.proofs.Outcomes.{any_holds, then_holds, then_known, either_holds, found_holds, known_holds}
use Rattle.fws_pf.proofs.Readings.{ReadsProtocols, fresh_protocols, protocols_read, ended_reads}

-- What is known of a rule so far

-- its protocols are each one, its options ask for types of ICMP messages and for tags as it says, and the tag that it puts is
-- one of its tags, which are no fewer than there were before
pub record Facts (before : ℕ) (protocols : List Item) (asked : List Choice) (icmp : Bool) (tags : List (List ℕ)) (tag : Option ℕ) : Type 0 where
  pub grown : before ≤ length tags
  pub protocols_one : list_all one_protocol protocols ≡ true
  pub options_may : list_all (choice_may false icmp (length tags)) asked ≡ true
  pub tag_known : tag_fits (length tags) tag ≡ true

abbrev pub Known : ℕ → RuleDraft → Type 0
Known before d = Facts before d.protocols d.options d.has_icmp_type d.tags d.tag

-- by what the next word is taken for
abbrev At : Expects → RuleDraft → Type 0
At (expect.Value places.Proto) d = ReadsProtocols d.value
At (expect.Value places.IcmpType) d = d.has_icmp_type ≡ true
At _ d = Unit {0}

abbrev pub Begun : ℕ → RuleDraft → Type 0
Begun before d = Known before d × At d.expects d

-- Tags

name_grows : (names : List (List ℕ)) (text : List ℕ) → length names ≤ length (with_name names text)
name_grows names text =
    cond_both (list_any (bytes_eq text) names) names (names ++ text ∷ []) (λ ns. length names ≤ length ns) (λ e. omega arith)
    (λ e. omega (arith, length-append names (text ∷ [])))

place_within : (names : List (List ℕ)) (text : List ℕ) → place_of names text ≤ length names
place_within [] text = omega arith
place_within (name ∷ names) text =
    let more = place_within names text in
    cond_both (bytes_eq text name) 0 (suc (place_of names text)) (λ n. n ≤ length (name ∷ names)) (λ e. omega arith) (λ e. omega (arith, more))

place_there : (names : List (List ℕ)) (text : List ℕ) → list_any (bytes_eq text) names ≡ true → place_of names text < length names
place_there [] text there = absurd (false≢true there)
place_there (name ∷ names) text there =
    cond_both (bytes_eq text name) 0 (suc (place_of names text)) (λ n. n < length (name ∷ names)) (λ e. omega arith)
    (λ e.
    let rest : list_any (bytes_eq text) names ≡ true
    = ⊎_elim (λ here. absurd (both_ways (bytes_eq text name) e here)) (λ more. more) (or_cases (bytes_eq text name) (list_any (bytes_eq text) names) there) in
    let more = place_there names text rest in
    omega (arith, more))

-- the place of a name that is among them now
place_known : (names : List (List ℕ)) (text : List ℕ) → nat_lt (place_of names text) (length (with_name names text)) ≡ true
place_known names text =
    let within = place_within names text in
    cond_both (list_any (bytes_eq text) names) names (names ++ text ∷ []) (λ ns. nat_lt (place_of names text) (length ns) ≡ true)
    (λ e. lt-ltb (place_of names text) (length names) (place_there names text e))
    (λ e. lt-ltb (place_of names text) (length (names ++ text ∷ [])) (omega (arith, within, length-append names (text ∷ []))))

pub tag_more : (a b : ℕ) (tag : Option ℕ) → a ≤ b → tag_fits a tag ≡ true → tag_fits b tag ≡ true
tag_more a b None more h = refl
tag_more a b (Some n) more h = below_more n a b more h

any_some : {A : Type 0} (o : Option A) → IfSome o (λ x. Unit {0})
any_some None = tt
any_some (Some x) = tt

module _ (before : ℕ) where
  abbrev Step : Result RuleDraft Cause → Type 0
  Step r = IfOk r (Begun before)

  -- a step to one of two, and to one or none
  either : (b : Bool) (r s : Result RuleDraft Cause) → Step r → Step s → Step (cond b r s)
  either b r s h k = either_holds (Begun before) b r s (λ e. h) (λ e. k)

  unmarked : (w : Word) (r : Result RuleDraft Cause) → Step r → Step (cond (is_any_mark w) (Err Syntax) r)
  unmarked w r h = either (is_any_mark w) (Err Syntax) r tt h

  -- Choices and tags

  choice_known : (choice : Choice) (d : RuleDraft) → choice_may false d.has_icmp_type (length d.tags) choice ≡ true → Known before d
      → Facts before d.protocols (d.options ++ choice ∷ []) d.has_icmp_type d.tags d.tag
  choice_known choice d k h = record {
    grown = h.grown;
    protocols_one = h.protocols_one;
    options_may = all_longer (choice_may false d.has_icmp_type (length d.tags)) d.options choice h.options_may k;
    tag_known = h.tag_known;
  }

  name_known : (text : List ℕ) (d : RuleDraft) → Known before d → Facts before d.protocols d.options d.has_icmp_type (with_name d.tags text) d.tag
  name_known text d h =
      let more = name_grows d.tags text in
      let first = h.grown in
      record {
        grown = omega (arith, more, first);
        protocols_one = h.protocols_one;
        options_may = choices_more false d.has_icmp_type false d.has_icmp_type (length d.tags) (length (with_name d.tags text)) (λ on. on) (λ on. on) more d.options h.options_may;
        tag_known = tag_more (length d.tags) (length (with_name d.tags text)) d.tag more h.tag_known;
      }

  behind_put : (verb : Verb) (d : RuleDraft) → At (behind_tag verb) d
  behind_put verbs.Block d = tt
  behind_put verbs.Pass d = tt
  behind_put verbs.Rdr d = tt
  behind_put verbs.Nat d = tt

  behind_asked : (verb : Verb) (d : RuleDraft) → At (behind_tagged verb) d
  behind_asked verbs.Block d = tt
  behind_asked verbs.Pass d = tt
  behind_asked verbs.Rdr d = tt
  behind_asked verbs.Nat d = tt

  tag_name_begun : (w : Word) (d : RuleDraft) → Known before d → Step (tag_name_step w d)
  tag_name_begun w d h =
      let k = name_known w.text d h in
      unmarked w _ (
        record { grown = k.grown; protocols_one = k.protocols_one; options_may = k.options_may; tag_known = place_known d.tags w.text },
        behind_put d.verb _,
      )

  tag_literals_may : (asked : Bool) (n tags : ℕ) (icmp : Bool) → nat_lt n tags ≡ true → choice_may false icmp tags (only (tag_literals asked n)) ≡ true
  tag_literals_may true n tags icmp h = and_from (nat_lt n tags && true) true (and_from (nat_lt n tags) true h refl) refl
  tag_literals_may false n tags icmp h = and_from (nat_lt n tags && true) true (and_from (nat_lt n tags) true h refl) refl

  tagged_name_begun : (asked : Bool) (w : Word) (d : RuleDraft) → Known before d → Step (tagged_name_step asked w d)
  tagged_name_begun asked w d h =
      let named : RuleDraft = record d { tags = with_name d.tags w.text; expects = behind_tagged d.verb } in
      let literal = only (tag_literals asked (place_of d.tags w.text)) in
      unmarked w _ (
        choice_known literal named
            (tag_literals_may asked (place_of d.tags w.text) (length (with_name d.tags w.text)) d.has_icmp_type (place_known d.tags w.text)) (name_known w.text d h),
        behind_asked d.verb _,
      )

  -- Flags

  -- a choice that any rule may have
  abbrev IsFree : Test → Type 0
  IsFree test = choice_may false false 0 (only (positive test ∷ [])) ≡ true

  between_free : (halves : List ℕ × List ℕ) → IfOk (flags_between halves) IsFree
  between_free halves =
      let want = with_flags 0 halves.0 in
      let mask = with_flags 0 halves.1 in
      either_holds IsFree (not (list_all is_flag_letter (halves.0 ++ halves.1))) (Err Syntax) _ (λ e. tt)
      (λ e. either_holds IsFree (list_any is_congestion (halves.0 ++ halves.1)) (Err LeftOut) (flags_within want mask) (λ k. tt)
      (λ k. either_holds IsFree (nat_eq (bit_and want mask) want) (Ok (tests.Flags mask want)) (Err Syntax) (λ l. refl) (λ l. tt)))

  flags_begun : (w : Word) (d : RuleDraft) → Known before d → Step (flags_step w d)
  flags_begun w d h =
      either (is w (codes "any")) (going expect.Option d) (and_then (flags_test w.text) (λ test. Ok (with_flags_test test d))) (h, tt)
      (then_known IsFree (Begun before) (flags_test w.text) (λ test. Ok (with_flags_test test d))
      (found_holds IsFree (split_once 47 w.text) flags_between (Err Syntax) between_free tt)
      (λ test free.
      let choice = only (positive test ∷ []) in (
        choice_known choice d
            (choice_more false false false d.has_icmp_type 0 (length d.tags) (λ on. on) (λ never. absurd (false≢true never)) (omega arith) choice free) h,
        tt,
      )))

  -- Options of filter rules

  once_begun : (given : Bool) (d : RuleDraft) → Begun before d → Step (once given d)
  once_begun given d h = either given (Err Syntax) (Ok d) tt h

  state_begins : (keeps : Bool) (d : RuleDraft) → Known before d → Step (state_begun keeps d)
  state_begins keeps d h =
      either (passes d.verb) (once d.has_state (record d { has_state = true; expects = expect.State keeps })) (Err Syntax)
      (once_begun d.has_state (record d { has_state = true; expects = expect.State keeps }) (h, tt)) tt

  icmp_begins : (given : Bool) (d : RuleDraft) → Known before d → Step (and_then (once given (record d { has_icmp_type = true })) (asking places.IcmpType))
  icmp_begins true d h = tt
  icmp_begins false d h = (
    record {
      grown = h.grown;
      protocols_one = h.protocols_one;
      options_may = choices_more false d.has_icmp_type false true (length d.tags) (length d.tags) (λ on. on) (λ on. refl) (omega arith) d.options h.options_may;
      tag_known = h.tag_known;
    },
    refl,
  )

  option_begins : (option : OptionWord) (d : RuleDraft) → Known before d → Step (option_begun option d)
  option_begins options.Flags d h = once_begun d.has_flags (record d { has_flags = true; expects = expect.Flags }) (h, tt)
  option_begins options.IcmpType d h = icmp_begins d.has_icmp_type d h
  option_begins options.Keep d h = state_begins true d h
  option_begins options.NoState d h = state_begins false d h
  option_begins options.Tag d h = once_begun d.has_tag (record d { has_tag = true; expects = expect.TagName }) (h, tt)
  option_begins options.Tagged d h = once_begun d.has_tagged (record d { has_tagged = true; expects = expect.TaggedName true }) (h, tt)
  option_begins options.Label d h = once_begun d.has_label (record d { has_label = true; expects = expect.Label }) (h, tt)

  filter_option_begun : (w : Word) (d : RuleDraft) → Known before d → Step (filter_option_step w d)
  filter_option_begun w d h =
      either (is_mark w (codes "!")) (going expect.NotTagged d) _ (h, tt)
      (found_holds (Begun before) (option_word w.text) (λ option. option_begun option d) (misplaced_word w) (λ option. option_begins option d h) tt)

  not_tagged_begun : (w : Word) (d : RuleDraft) → Known before d → Step (not_tagged_step w d)
  not_tagged_begun w d h =
      either (is w (codes "tagged")) (once d.has_tagged (record d { has_tagged = true; expects = expect.TaggedName false })) (misplaced_word w)
      (once_begun d.has_tagged (record d { has_tagged = true; expects = expect.TaggedName false }) (h, tt)) tt

  state_step_begun : (keeps : Bool) (w : Word) (d : RuleDraft) → Known before d → Step (state_step keeps w d)
  state_step_begun keeps w d h = either (is w (codes "state")) (Ok (record d { stateless = not keeps; expects = expect.Option })) (misplaced_word w) (h, tt) tt

  -- Options of translations

  arrow_begun : (cause : Cause) (w : Word) (d : RuleDraft) → Known before d → Step (arrow_step cause w d)
  arrow_begun cause w d h = either (is_mark w (codes "->") && not d.negated) (going expect.Target d) (Err cause) (h, tt) tt

  tagged_begun : (w : Word) (d : RuleDraft) → Known before d → Step (tagged_step w d)
  tagged_begun w d h =
      either (is w (codes "tagged")) (going (expect.TaggedName true) d) (arrow_step (misplaced w.text) w d) (h, tt) (arrow_begun (misplaced w.text) w d h)

  translation_option_begun : (w : Word) (d : RuleDraft) → Known before d → Step (translation_option_step w d)
  translation_option_begun w d h = either (is w (codes "tag")) (going expect.TagName d) (tagged_step w d) (h, tt) (tagged_begun w d h)

  option_step_begun : (w : Word) (d : RuleDraft) → Known before d → Step (option_step w d)
  option_step_begun w d h =
      either (is_translation d.verb) (translation_option_step w d) (filter_option_step w d) (translation_option_begun w d h) (filter_option_begun w d h)

  -- What stands ahead of options

  destination_ports_begun : (w : Word) (d : RuleDraft) → Known before d → Step (destination_ports_step w d)
  destination_ports_begun w d h = either (is w (codes "port")) (asking places.DestinationPort d) (option_step w d) (h, tt) (option_step_begun w d h)

  to_begun : (w : Word) (d : RuleDraft) → Known before d → Step (to_step w d)
  to_begun w d h = either (is w (codes "to")) (asking places.Destination d) (option_step w d) (h, tt) (option_step_begun w d h)

  source_ports_begun : (w : Word) (d : RuleDraft) → Known before d → Step (source_ports_step w d)
  source_ports_begun w d h = either (is w (codes "port")) (asking places.SourcePort d) (to_step w d) (h, tt) (to_begun w d h)

  hosts_begun : (w : Word) (d : RuleDraft) → Known before d → Step (hosts_step w d)
  hosts_begun w d h =
      either (is w (codes "all")) (going expect.Option d) _ (h, tt) (either (is w (codes "from")) (asking places.Source d) (to_step w d) (h, tt) (to_begun w d h))

  proto_begun : (w : Word) (d : RuleDraft) → Known before d → Step (proto_step w d)
  proto_begun w d h = either (is w (codes "proto")) (asking places.Proto d) (hosts_step w d) (h, fresh_protocols) (hosts_begun w d h)

  inet_begun : (w : Word) (d : RuleDraft) → Known before d → Step (inet_step w d)
  inet_begun w d h = either (is w (codes "inet")) (going expect.Proto d) (proto_step w d) (h, tt) (proto_begun w d h)

  on_begun : (w : Word) (d : RuleDraft) → Known before d → Step (on_step w d)
  on_begun w d h = either (is w (codes "on")) (asking places.On d) (inet_step w d) (h, tt) (inet_begun w d h)

  quick_begun : (w : Word) (d : RuleDraft) → Known before d → Step (quick_step w d)
  quick_begun w d h = either (is w (codes "quick")) (Ok (record d { quick = true; expects = expect.On })) (on_step w d) (h, tt) (on_begun w d h)

  logged_begun : (w : Word) (d : RuleDraft) → Known before d → Step (logged_step w d)
  logged_begun w d h = either (is_mark w (codes "(")) (going expect.LogAll d) (quick_step w d) (h, tt) (quick_begun w d h)

  log_begun : (w : Word) (d : RuleDraft) → Known before d → Step (log_step w d)
  log_begun w d h = either (is w (codes "log")) (going expect.Logged d) (quick_step w d) (h, tt) (quick_begun w d h)

  way_begun : (w : Word) (d : RuleDraft) → Known before d → Step (way_step w d)
  way_begun w d h =
      either (is w (codes "in")) (Ok (record d { way = ways.Inward; expects = expect.Log })) _ (h, tt)
      (either (is w (codes "out")) (Ok (record d { way = ways.Outward; expects = expect.Log })) (log_step w d) (h, tt) (log_begun w d h))

  answer_begun : (w : Word) (d : RuleDraft) → Known before d → Step (answer_step w d)
  answer_begun w d h = either (list_any (is w) answers) (going expect.Way d) (way_step w d) (h, tt) (way_begun w d h)

  past_begun : (w : Word) (d : RuleDraft) → Known before d → Step (past_step w d)
  past_begun w d h = either (is w (codes "pass")) (Ok (record d { past = true; expects = expect.On })) (on_step w d) (h, tt) (on_begun w d h)

  -- Targets

  name_target_begun : (site : Site) (text : List ℕ) (d : RuleDraft) → Known before d → Step (name_target site text d)
  name_target_begun site text d h =
      either (begins_with_digit text) (option_map_or (λ halves. Err (modified halves.1)) (split_once 58 text) (Err Syntax)) _
      (found_holds (Begun before) (split_once 58 text) (λ halves. Err (modified halves.1)) (Err Syntax) (λ halves. tt) tt)
      (then_holds (Begun before) (named_target site text) (λ target. Ok (with_target target expect.Targeted d)) (λ target. (h, tt)))

  target_word_begun : (site : Site) (text : List ℕ) (d : RuleDraft) → Known before d → Step (target_word site text d)
  target_word_begun site text d h =
      found_holds (Begun before) (quad_of text) _ _ (λ addr. (h, tt))
      (found_holds (Begun before) (prefix_of text) (λ net. network_target net d) (name_target site text d)
      (λ net. either (nat_eq net.len 0) (Err LeftOut) _ tt (h, tt)) (name_target_begun site text d h))

  target_begun : (site : Site) (w : Word) (d : RuleDraft) → Known before d → Step (target_step site w d)
  target_begun site w d h =
      either (is_mark w (codes "(")) (going expect.TargetName d) _ (h, tt)
      (either (is_mark w (codes "{")) (Err LeftOut) _ tt (unmarked w (target_word site w.text d) (target_word_begun site w.text d h)))

  target_name_begun : (site : Site) (w : Word) (d : RuleDraft) → Known before d → Step (target_name_step site w d)
  target_name_begun site w d h =
      unmarked w _ (then_holds (Begun before) (named_target site w.text) (λ target. Ok (with_target target expect.TargetEnd d)) (λ target. (h, tt)))

  bitmask_nat : (w : Word) (d : RuleDraft) → Known before d → (t : Target) → Step (bitmask_of verbs.Nat w d t)
  bitmask_nat w d h t =
      either (is w (codes "bitmask")) (Ok (with_target (mapped t) expect.Targeted d)) _ (h, tt)
      (either (is w (codes "static-port") && not t.is_static) (Ok (with_target (kept_static t) expect.Bitmask d)) (Err LeftOut) (h, tt) tt)

  bitmask_by : (verb : Verb) (w : Word) (d : RuleDraft) → Known before d → (t : Target) → Step (bitmask_of verb w d t)
  bitmask_by verbs.Nat w d h t = bitmask_nat w d h t
  bitmask_by _ w d h t = either (is w (codes "bitmask")) (Ok (with_target (mapped t) expect.Targeted d)) (Err LeftOut) (h, tt) tt

  bitmask_begun : (w : Word) (d : RuleDraft) → Known before d → Step (bitmask_step w d)
  bitmask_begun w d h = found_holds (Begun before) d.target (bitmask_of d.verb w d) (Err Syntax) (λ t. bitmask_by d.verb w d h t) tt

  rdr_begun : (w : Word) (d : RuleDraft) → Known before d → (t : Target) → Step (rdr_targeted w d t)
  rdr_begun w d h t =
      either t.is_mapped (Err (cond (is w (codes "port")) LeftOut Syntax)) _ tt
      (either (is w (codes "port")) (going expect.TargetPort d) _ (h, tt)
      (either (is w (codes "bitmask") && may_be_mapped t) (Ok (with_target (mapped t) expect.Targeted d)) (misplaced_word w) (h, tt) tt))

  nat_begun : (w : Word) (d : RuleDraft) → Known before d → (t : Target) → Step (nat_targeted w d t)
  nat_begun w d h t =
      either (is w (codes "port")) (Err LeftOut) _ tt
      (either (is_complete t) (Err Syntax) _ tt
      (either (is w (codes "static-port") && not t.is_static) (Ok (with_target (kept_static t) expect.Targeted d)) _ (h, tt)
      (either (is w (codes "bitmask") && may_be_mapped t) (Ok (with_target (mapped t) expect.Targeted d)) (misplaced_word w) (h, tt) tt)))

  targeted_by_begun : (verb : Verb) (w : Word) (d : RuleDraft) → Known before d → (t : Target) → Step (targeted_by verb w d t)
  targeted_by_begun verbs.Nat w d h t = nat_begun w d h t
  targeted_by_begun _ w d h t = rdr_begun w d h t

  targeted_begun : (w : Word) (d : RuleDraft) → Known before d → Step (targeted_step w d)
  targeted_begun w d h = found_holds (Begun before) d.target (targeted_by d.verb w d) (Err Syntax) (λ t. targeted_by_begun d.verb w d h t) tt

  target_port_begun : (w : Word) (d : RuleDraft) → Known before d → Step (target_port_step w d)
  target_port_begun w d h =
      unmarked w _ (found_holds (Begun before) d.target (λ t. and_then (target_port w.text) (λ n. Ok (with_target (with_port n t) expect.Ended d))) (Err Syntax)
      (λ t. then_holds (Begun before) (target_port w.text) (λ n. Ok (with_target (with_port n t) expect.Ended d)) (λ n. (h, tt))) tt)

  -- Words

  word_begun : (setting : Setting) (expects : Expects) (w : Word) (d : RuleDraft) → Known before d → Step (word_step setting expects w d)
  word_begun setting expect.Answer w d h = answer_begun w d h
  word_begun setting expect.Way w d h = way_begun w d h
  word_begun setting expect.Log w d h = log_begun w d h
  word_begun setting expect.Logged w d h = logged_begun w d h
  word_begun setting expect.LogAll w d h = either (is w (codes "all")) (going expect.LogEnd d) (misplaced_word w) (h, tt) tt
  word_begun setting expect.LogEnd w d h = either (is_mark w (codes ")")) (going expect.Quick d) (Err Syntax) (h, tt) tt
  word_begun setting expect.Quick w d h = quick_begun w d h
  word_begun setting expect.Past w d h = past_begun w d h
  word_begun setting expect.On w d h = on_begun w d h
  word_begun setting expect.Inet w d h = inet_begun w d h
  word_begun setting expect.Proto w d h = proto_begun w d h
  word_begun setting expect.Hosts w d h = hosts_begun w d h
  word_begun setting expect.SourcePorts w d h = source_ports_begun w d h
  word_begun setting expect.To w d h = to_begun w d h
  word_begun setting expect.DestinationPorts w d h = destination_ports_begun w d h
  word_begun setting expect.Option w d h = option_step_begun w d h
  word_begun setting (expect.State keeps) w d h = state_step_begun keeps w d h
  word_begun setting expect.Flags w d h = flags_begun w d h
  word_begun setting expect.TagName w d h = tag_name_begun w d h
  word_begun setting expect.NotTagged w d h = not_tagged_begun w d h
  word_begun setting (expect.TaggedName asked) w d h = tagged_name_begun asked w d h
  word_begun setting expect.Label w d h = unmarked w (going expect.Option d) (h, tt)
  word_begun setting expect.Tagged w d h = tagged_begun w d h
  word_begun setting expect.Arrow w d h = arrow_begun Syntax w d h
  word_begun setting expect.Target w d h = target_begun setting.site w d h
  word_begun setting expect.TargetName w d h = target_name_begun setting.site w d h
  word_begun setting expect.TargetEnd w d h = either (is_mark w (codes ")")) (going expect.Targeted d) (Err Syntax) (h, tt) tt
  word_begun setting expect.Bitmask w d h = bitmask_begun w d h
  word_begun setting expect.Targeted w d h = targeted_begun w d h
  word_begun setting expect.TargetPort w d h = target_port_begun w d h
  word_begun setting expect.Ended w d h = tt
  word_begun setting (expect.Value place) w d h = tt

  -- Values

  -- what is known of a value at a place
  abbrev Reading : Place → ValueDraft → Type 0
  Reading places.Proto v = ReadsProtocols v
  Reading _ v = Unit {0}

  reading_goes_on : (setting : Setting) (place : Place) (w : Word) (d : RuleDraft) → At (expect.Value place) d → IfOk (value_step setting w d.value) (λ next. Reading place next.0)
  reading_goes_on setting places.Proto w d here = protocols_read setting w d.value here
  reading_goes_on setting _ w d here = any_holds (value_step setting w d.value)

  items_known : (place : Place) (v : ValueDraft) (d : RuleDraft) → Known before d → At (expect.Value place) d → Reading place v → Known before (with_items place v.items d)
  items_known places.Proto v d h here read = record { grown = h.grown; protocols_one = read.items; options_may = h.options_may; tag_known = h.tag_known }
  items_known places.IcmpType v d h here read =
      choice_known (choice_of [] tests.Icmp v.items) d (items_may false d.has_icmp_type (length d.tags) [] tests.Icmp (λ set. here) v.items) h
  items_known places.On v d h here read = h
  items_known places.Source v d h here read = h
  items_known places.SourcePort v d h here read = h
  items_known places.Destination v d h here read = h
  items_known places.DestinationPort v d h here read = h

  valued_known : (place : Place) (v : ValueDraft) (d : RuleDraft) → Known before d → At (expect.Value place) d → Reading place v → Known before (valued place v d)
  valued_known places.Proto v d h here read = items_known places.Proto v d h here read
  valued_known places.IcmpType v d h here read = items_known places.IcmpType v d h here read
  valued_known places.On v d h here read = items_known places.On v d h here read
  valued_known places.Source v d h here read = items_known places.Source v d h here read
  valued_known places.SourcePort v d h here read = items_known places.SourcePort v d h here read
  valued_known places.Destination v d h here read = items_known places.Destination v d h here read
  valued_known places.DestinationPort v d h here read = items_known places.DestinationPort v d h here read

  valued_begun : (place : Place) (v : ValueDraft) (d : RuleDraft) → Known before (valued place v d) → Begun before (valued place v d)
  valued_begun places.Proto v d h = (h, tt)
  valued_begun places.IcmpType v d h = (h, tt)
  valued_begun places.On v d h = (h, tt)
  valued_begun places.Source v d h = (h, tt)
  valued_begun places.SourcePort v d h = (h, tt)
  valued_begun places.Destination v d h = (h, tt)
  valued_begun places.DestinationPort v d h = (h, tt)

  still_here : (place : Place) (v : ValueDraft) (d : RuleDraft) → At (expect.Value place) d → Reading place v → At (expect.Value place) (record d { value = v })
  still_here places.Proto v d here read = read
  still_here places.IcmpType v d here read = here
  still_here places.On v d here read = tt
  still_here places.Source v d here read = tt
  still_here places.SourcePort v d here read = tt
  still_here places.Destination v d here read = tt
  still_here places.DestinationPort v d here read = tt

  value_taken_begun : (place : Place) (v : ValueDraft) (d : RuleDraft) → d.expects ≡ expect.Value place → Known before d → At (expect.Value place) d → Reading place v
      → Begun before (value_taken place v d)
  value_taken_begun place v d same h here read =
      cond_both (has_ended v.expects) (valued place v d) (record d { value = v }) (Begun before) (λ e. valued_begun place v d (valued_known place v d h here read))
      (λ e. (h, subst (λ next. At next (record d { value = v })) (sym same) (still_here place v d here read)))

  value_word_begun : (setting : Setting) (place : Place) (w : Word) (d : RuleDraft) → d.expects ≡ expect.Value place → Known before d → At (expect.Value place) d
      → Step (value_word_step setting place w d)
  value_word_begun setting place w d same h here =
      then_known (λ next. Reading place next.0) (Begun before) (value_step setting w d.value) _ (reading_goes_on setting place w d here)
      (λ next read. either next.1 (Ok (value_taken place next.0 d)) (word_step setting (behind place) w (valued place next.0 d))
      (value_taken_begun place next.0 d same h here read) (word_begun setting (behind place) w (valued place next.0 d) (valued_known place next.0 d h here read)))

  expected_begun : (setting : Setting) (expects : Expects) (w : Word) (d : RuleDraft) → d.expects ≡ expects → Known before d → At expects d
      → Step (expected_step setting expects w d)
  expected_begun setting (expect.Value place) w d same h here = value_word_begun setting place w d same h here
  expected_begun setting expects w d same h here = word_begun setting expects w d h

  pub rule_goes_on : (setting : Setting) (w : Word) (d : RuleDraft) → Begun before d → IfOk (rule_step setting w d) (Begun before)
  rule_goes_on setting w d h = expected_begun setting d.expects w d refl h.0 h.1

  -- The end of the words

  value_ends : (place : Place) (d : RuleDraft) → At (expect.Value place) d → IfSome (ended_value d.value.expects d.value) (Reading place)
  value_ends places.Proto d here = ended_reads _ _ _ d.value here
  value_ends places.IcmpType d here = any_some (ended_value d.value.expects d.value)
  value_ends places.On d here = any_some (ended_value d.value.expects d.value)
  value_ends places.Source d here = any_some (ended_value d.value.expects d.value)
  value_ends places.SourcePort d here = any_some (ended_value d.value.expects d.value)
  value_ends places.Destination d here = any_some (ended_value d.value.expects d.value)
  value_ends places.DestinationPort d here = any_some (ended_value d.value.expects d.value)

  last_known : (expects : Expects) (d : RuleDraft) → Known before d → At expects d → IfOk (last_valued expects d) (Known before)
  last_known (expect.Value place) d h here =
      known_holds (Reading place) (Known before) (ended_value d.value.expects d.value) (λ v. Ok (valued place v d)) (Err Syntax) (value_ends place d here)
      (λ v read. valued_known place v d h here read) tt
  last_known _ d h here = h

  pub rule_ends : (d : RuleDraft) → Begun before d → IfOk (rule_ended d) (Known before)
  rule_ends d h =
      then_known (Known before) (Known before) (last_valued d.expects d) (λ e. cond (may_end e) (Ok e) (Err (early e.expects))) (last_known d.expects d h.0 h.1)
      (λ e k. either_holds (Known before) (may_end e) (Ok e) (Err (early e.expects)) (λ on. k) (λ off. tt))

-- a rule begins with the tags that there are
pub fresh_known : (verb : Verb) (negated : Bool) (next : Expects) (tags : List (List ℕ)) → Known (length tags) (fresh_rule verb negated next tags)
fresh_known verb negated next tags = record { grown = omega arith; protocols_one = refl; options_may = refl; tag_known = refl }
