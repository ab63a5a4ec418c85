-- The words of a rule are read as that rule.
use Rattle.std.proofs.Common.{◌≡◌, ℕ, ◌^◌, ◌≤◌, Bool, true, false, cond, ◌&&◌, ◌||◌, not, nat_eq, nat_le, nat_lt, Option, Some, None, IfSome, is_some, option_and_then, Result, Ok, List, [], ◌∷◌, ◌++◌, length, codes, refl, ap, ap₂, sym, ◌∙◌, append_assoc, append-nil, subst, inl, inr}
use Rattle.std.proofs.lemmas.Bool.{and_parts, or_cases, or_from, eqb-true, eq-eqb}
use Rattle.std.specs.Option.{option_map_or}
use Rattle.fws_net.specs.declared.cause.Cause.{Cause}
use Rattle.fws_net.specs.declared.cause.Cause.TheVariants.{LeftOut, Backward, Shape, Expand}
use Rattle.fws_net.specs.declared.condition.Lit.{Lit}
use Rattle.fws_net.specs.declared.condition.Test.TheVariants.{Src, Dst, Sport, Dport, Proto, Icmp, Flags, Via, Tag}
use Rattle.fws_net.specs.declared.site.Site.{Site}
use Rattle.fws_net.specs.Causes.{checked, unless}
use Rattle.fws_net.specs.SiteLaws.{IsOrderly}
use Rattle.fws_rules.specs.Literals.{one, positive}
use Rattle.fws_pf.specs.declared.config.PfConfig.{PfConfig}
use Rattle.fws_pf.specs.declared.config.PfRule.{PfRule}
use Rattle.fws_pf.specs.declared.config.Way.{Way}
use Rattle.fws_pf.specs.declared.config.Way.TheVariants as ways
use Rattle.fws_pf.specs.declared.rule_draft.Choice.{Choice}
use Rattle.fws_pf.specs.declared.rule_draft.Expects.{Expects}
use Rattle.fws_pf.specs.declared.rule_draft.Expects.TheVariants as expect
use Rattle.fws_pf.specs.declared.rule_draft.RuleDraft.{RuleDraft}
use Rattle.fws_pf.specs.declared.rule_draft.Target.{Target}
use Rattle.fws_pf.specs.declared.rule_draft.Verb.{Verb}
use Rattle.fws_pf.specs.declared.rule_draft.Verb.TheVariants as verbs
use Rattle.fws_pf.specs.declared.text_draft.PfDraft.{PfDraft}
use Rattle.fws_pf.specs.Drawn.{choices, condition_count, expanded_with, has_protocols, is_port_protocol, lacks_protocol, maps_too_many, value_choices}
use Rattle.fws_pf.specs.FileText.{rule_put, with_rule, with_rules}
use Rattle.fws_pf.specs.RuleText.{only}
use Rattle.fws_print.specs.Sets.{are_flags, is_number, is_range}
use Rattle.fws_pf_print.specs.Printable.{behind_cond, behind_put, protocol_tested, tested}
use Rattle.fws_pf_print.specs.PrintedText.{front_words, options_words, state_words, tag_words, tests_flags, tests_hosts, way_words}
use Rattle.fws_pf_print.proofs.Basics.{never}
use Rattle.fws_pf_print.proofs.Conds.{AreSingle, flags_tested, IsDivided, needs, protocol_there, seven_same, side_single, single_append, single_conditions, single_count, single_none, single_one, some_items, values_single}
use Rattle.fws_pf_print.proofs.Drafts.{AheadOfOn, at_answer, at_log, at_way, begins_so, BeginsOption, done, draft_at, front_read, items_of, no_words, nothing_told, opens_flags, opens_icmp, opens_keep, opens_tag, opens_tagged, seen, seen_at, side_items, Told, whole}
use Rattle.fws_pf_print.proofs.Laws.{Laws}
use Rattle.fws_pf_print.proofs.OptionsRead.{any_taken, AreKnown, blocks, flags_taken, IsFilter, kept_taken, passes, tag_taken, tagged_known, tagged_taken, told_flags, told_tag, told_tagged, told_type, type_taken}
use Rattle.fws_pf_print.proofs.Shapes.{flags_lits, flags_texts, lits_at, none_tested, tag_lits, tag_texts, type_lits, type_texts}
use Rattle.fws_pf_print.proofs.TagNames.{names}

-- What options say

abbrev pub flags_choices : Option (ℕ × ℕ) → List Choice
flags_choices o = option_map_or (λ f. only (positive (Flags f.0 f.1) ∷ []) ∷ []) o []

abbrev pub type_choices : Option ℕ → List Choice
type_choices o = option_map_or (λ k. only (positive (Icmp (one k k)) ∷ []) ∷ []) o []

abbrev pub tag_choices : Option ℕ → List Choice
tag_choices o = option_map_or (λ k. only (positive (Tag k) ∷ []) ∷ []) o []

abbrev pub told : List Choice → Bool → Bool → Bool → Bool → Bool → Bool → Option ℕ → Option Target → ℕ → Told
told cs has_flags tests_flags has_type has_state has_tag has_tagged tag target known = record {
  options = cs;
  has_flags = has_flags;
  tests_flags = tests_flags;
  has_icmp_type = has_type;
  has_state = has_state;
  has_tag = has_tag;
  has_tagged = has_tagged;
  tag = tag;
  target = target;
  tags = names known;
}

flags_told : (f : Option (ℕ × ℕ)) (known : ℕ) → told_flags f (nothing_told (names known)) ≡ told (flags_choices f) (is_some f) (is_some f) false false false false None None known
flags_told None known = refl
flags_told (Some f) known = refl

type_told : (i : Option ℕ) (cs : List Choice) (b : Bool) (known : ℕ) → told_type i (told cs b b false false false false None None known) ≡ told (cs ++ type_choices i) b b (is_some i) false false false None None known
type_told None cs b known = ap (λ (l : List Choice). told l b b false false false false None None known) (sym (append-nil cs))
type_told (Some i) cs b known = refl

tagged_told : (k : Option ℕ) (cs : List Choice) (b e : Bool) (known next : ℕ) → behind_put k known ≡ Some next
    → told_tagged true k next (told cs b b e false false false None None known) ≡ told (cs ++ tag_choices k) b b e false false (is_some k) None None next
tagged_told None cs b e known next h = (let same : known ≡ next = cc in ap₂ (λ (l : List Choice) (m : ℕ). told l b b e false false false None None m) (sym (append-nil cs)) same)
tagged_told (Some k) cs b e known next h = refl

tag_told : (k : Option ℕ) (cs : List Choice) (b e g : Bool) (known next : ℕ) → behind_put k known ≡ Some next
    → told_tag true k next (told cs b b e false false g None None known) ≡ told cs b b e false (is_some k) g k None next
tag_told None cs b e g known next h = (let same : known ≡ next = cc in ap (λ (m : ℕ). told cs b b e false false g None None m) same)
tag_told (Some k) cs b e g known next h = refl

pub options_single : (f : Option (ℕ × ℕ)) (i k : Option ℕ) → AreSingle ((flags_choices f ++ type_choices i) ++ tag_choices k) (flags_lits f ++ (type_lits i ++ tag_lits k))
options_single f i k =
    subst (AreSingle ((flags_choices f ++ type_choices i) ++ tag_choices k)) (append_assoc (flags_lits f) (type_lits i) (tag_lits k))
    (single_append (flags_choices f ++ type_choices i) (tag_choices k) (flags_lits f ++ type_lits i) (tag_lits k) (single_append (flags_choices f) (type_choices i) (flags_lits f) (type_lits i) (flags f) (types i)) (tags k))
  where
    flags : (f : Option (ℕ × ℕ)) → AreSingle (flags_choices f) (flags_lits f)
    flags None = single_none
    flags (Some f) = single_one (positive (Flags f.0 f.1) ∷ [])

    types : (i : Option ℕ) → AreSingle (type_choices i) (type_lits i)
    types None = single_none
    types (Some i) = single_one (positive (Icmp (one i i)) ∷ [])

    tags : (k : Option ℕ) → AreSingle (tag_choices k) (tag_lits k)
    tags None = single_none
    tags (Some k) = single_one (positive (Tag k) ∷ [])

-- Checks

pub no_check : {A : Type 0} (a b c e : Bool) (x : A) → a ≡ false → b ≡ false → c ≡ false → e ≡ false → checked (record { left_out = a; backward = b; shape = c; expand = e }) x ≡ Ok x
no_check a b c e x ha hb hc he =
    ap (λ v. unless (cond v (Some LeftOut) (cond b (Some Backward) (cond c (Some Shape) (cond e (Some Expand) None)))) x) ha
    ∙ ap (λ v. unless (cond v (Some Backward) (cond c (Some Shape) (cond e (Some Expand) None))) x) hb
    ∙ ap (λ v. unless (cond v (Some Shape) (cond e (Some Expand) None)) x) hc
    ∙ ap (λ v. unless (cond v (Some Expand) None) x) he

-- a text so far
abbrev pub text_at : PfConfig → PfDraft
text_at c = record { macros = []; tables = []; expanded = 0; config = c }

-- the literals that a whole draft asks for
abbrev pub lits_of : List Lit → List Lit → List Lit
lits_of lits opts = ((((((lits_at Via (tested 0 lits) ++ lits_at Proto (tested 1 lits)) ++ lits_at Src (tested 2 lits)) ++ lits_at Sport (tested 3 lits)) ++ lits_at Dst (tested 4 lits)) ++ lits_at Dport (tested 5 lits)) ++ opts) ++ []

module _ (site : Site) (lits : List Lit) (is : IsDivided site lits) where
  abbrev pub opts : List Lit
  opts = flags_lits is.options.flags ++ (type_lits is.options.type ++ tag_lits is.options.tag)

  pub lits_same : lits_of lits opts ≡ lits
  lits_same =
      seven_same (lits_at Via (tested 0 lits)) (lits_at Proto (tested 1 lits)) (lits_at Src (tested 2 lits)) (lits_at Sport (tested 3 lits)) (lits_at Dst (tested 4 lits)) (lits_at Dport (tested 5 lits)) opts
      ∙ sym (is.divides
      ∙ ap (λ (r : List Lit). lits_at Via (tested 0 lits) ++ (lits_at Proto (tested 1 lits) ++ (lits_at Src (tested 2 lits) ++ (lits_at Sport (tested 3 lits) ++ (lits_at Dst (tested 4 lits) ++ (lits_at Dport (tested 5 lits) ++ r)))))) is.options.divides)

  front_single : AreSingle
      (((((value_choices [] Via (items_of (tested 0 lits)) ++ value_choices [] Proto (items_of (tested 1 lits))) ++ value_choices [] Src (side_items (tests_hosts lits) (tested 2 lits)))
      ++ value_choices [] Sport (items_of (tested 3 lits))) ++ value_choices [] Dst (side_items (tests_hosts lits) (tested 4 lits))) ++ value_choices [] Dport (items_of (tested 5 lits)))
      (((((lits_at Via (tested 0 lits) ++ lits_at Proto (tested 1 lits)) ++ lits_at Src (tested 2 lits)) ++ lits_at Sport (tested 3 lits)) ++ lits_at Dst (tested 4 lits)) ++ lits_at Dport (tested 5 lits))
  front_single =
      single_append _ _ _ _
      (single_append _ _ _ _
      (single_append _ _ _ _
      (single_append _ _ _ _ (single_append _ _ _ _ (values_single Via (tested 0 lits)) (values_single Proto (tested 1 lits))) (side_single Src (tests_hosts lits) (tested 2 lits) (none_tested 2 lits refl)))
      (values_single Sport (tested 3 lits)))
      (side_single Dst (tests_hosts lits) (tested 4 lits) (none_tested 4 lits refl)))
      (values_single Dport (tested 5 lits))

  pub draft_single : (cs : List Choice) → AreSingle cs opts
      → AreSingle
      (((((((value_choices [] Via (items_of (tested 0 lits)) ++ value_choices [] Proto (items_of (tested 1 lits))) ++ value_choices [] Src (side_items (tests_hosts lits) (tested 2 lits)))
      ++ value_choices [] Sport (items_of (tested 3 lits))) ++ value_choices [] Dst (side_items (tests_hosts lits) (tested 4 lits))) ++ value_choices [] Dport (items_of (tested 5 lits))) ++ cs) ++ []) lits
  draft_single cs h = subst (AreSingle _) lits_same (single_append _ [] _ [] (single_append _ cs _ opts front_single h) single_none)

  -- ports are there only where the protocol has them
  ports_need : (b : Bool) → (nat_le 1 (length (items_of (tested 3 lits))) || nat_le 1 (length (items_of (tested 5 lits))) || b) ≡ true → (b ≡ true → is_port_protocol (protocol_tested lits) ≡ true)
      → has_protocols is_port_protocol (items_of (tested 1 lits)) ≡ true
  ports_need b h k = protocol_there is_port_protocol (tested 1 lits) refl (elim (or_cases (nat_le 1 (length (items_of (tested 3 lits))) || nat_le 1 (length (items_of (tested 5 lits)))) b h) [
    | inl e ↦ elim (or_cases (nat_le 1 (length (items_of (tested 3 lits)))) (nat_le 1 (length (items_of (tested 5 lits)))) e) [
      | inl e3 ↦ (and_parts (is_port_protocol (protocol_tested lits)) (is_range 65535 (tested 3 lits)) (is.sport (some_items (tested 3 lits) e3))).0
      | inr e5 ↦ (and_parts (is_port_protocol (protocol_tested lits)) (is_range 65535 (tested 5 lits)) (is.dport (some_items (tested 5 lits) e5))).0
    ]
    | inr e ↦ k e
  ])

  flags_need : (f : Option (ℕ × ℕ)) → IfSome f (λ f. (nat_eq (protocol_tested lits) 6 && are_flags f.0 f.1) ≡ true) → is_some f ≡ true → has_protocols (nat_eq 6) (items_of (tested 1 lits)) ≡ true
  flags_need None h k = never k
  flags_need (Some f) h k =
      let same : protocol_tested lits ≡ 6 = eqb-true (protocol_tested lits) 6 (and_parts (nat_eq (protocol_tested lits) 6) (are_flags f.0 f.1) h).0 in
      protocol_there (nat_eq 6) (tested 1 lits) refl (eq-eqb 6 (protocol_tested lits) (sym same))

  type_needs : (i : Option ℕ) → IfSome i (λ k. (nat_eq (protocol_tested lits) 1 && is_number 255 (one k k)) ≡ true) → is_some i ≡ true → has_protocols (nat_eq 1) (items_of (tested 1 lits)) ≡ true
  type_needs None h k = never k
  type_needs (Some i) h k =
      let same : protocol_tested lits ≡ 1 = eqb-true (protocol_tested lits) 1 (and_parts (nat_eq (protocol_tested lits) 1) (is_number 255 (one i i)) h).0 in
      protocol_there (nat_eq 1) (tested 1 lits) refl (eq-eqb 1 (protocol_tested lits) (sym same))

  -- no protocol lacks
  pub protocols_there : (port : Bool) → (port ≡ true → is_port_protocol (protocol_tested lits) ≡ true)
      → ((nat_le 1 (length (items_of (tested 3 lits))) || nat_le 1 (length (items_of (tested 5 lits))) || port) && not (has_protocols is_port_protocol (items_of (tested 1 lits)))
      || is_some is.options.flags && not (has_protocols (nat_eq 6) (items_of (tested 1 lits))) || is_some is.options.type && not (has_protocols (nat_eq 1) (items_of (tested 1 lits)))) ≡ false
  protocols_there port k =
      or_from _ _
      (or_from _ _
      (needs (nat_le 1 (length (items_of (tested 3 lits))) || nat_le 1 (length (items_of (tested 5 lits))) || port) (has_protocols is_port_protocol (items_of (tested 1 lits))) (λ h. ports_need port h k))
      (needs (is_some is.options.flags) (has_protocols (nat_eq 6) (items_of (tested 1 lits))) (flags_need is.options.flags is.options.flags_printed)))
      (needs (is_some is.options.type) (has_protocols (nat_eq 1) (items_of (tested 1 lits))) (type_needs is.options.type is.options.type_printed))

-- What a whole draft says

module _ (site : Site) (n : ℕ) (c : PfConfig) where
  pub made : (d : RuleDraft) (lits : List Lit) → AreSingle (choices [] d) lits → maps_too_many [] d ≡ false → lacks_protocol d ≡ false
      → rule_put [] d (text_at c) ≡ Ok (text_at (with_rules d.verb d (lits ∷ []) c))
  made d lits single mapped protocols =
      let cs = choices [] d in
      let count = single_count cs lits single in
      no_check (maps_too_many [] d) false (lacks_protocol d) (nat_lt 200000 (expanded_with 0 (condition_count cs))) (with_rule cs d (text_at c)) mapped refl protocols (ap (λ k. nat_lt 200000 (expanded_with 0 k)) count)
      ∙ ap₂ (λ (k : ℕ) (ls : List (List Lit)). let t : PfDraft = record { macros = []; tables = []; expanded = expanded_with 0 k; config = with_rules d.verb d ls c } in let r : Result PfDraft Cause = Ok t in r) count
      (single_conditions cs lits single)

-- Filter rules

-- what the word behind an action is taken for
abbrev first_at : Verb → Expects
first_at verbs.Block = expect.Answer
first_at verbs.Pass = expect.Way
first_at _ = expect.Past

abbrev next_way : Way → Expects → Expects
next_way ways.Both next = next
next_way ways.Inward next = expect.Log
next_way ways.Outward next = expect.Log

ahead_of_way : (way : Way) (next : Expects) → AheadOfOn next → AheadOfOn (next_way way next)
ahead_of_way ways.Both next h = h
ahead_of_way ways.Inward next h = at_log
ahead_of_way ways.Outward next h = at_log

-- what a rule says of state, where it asks for these flags
abbrev state_texts : Bool → Option (ℕ × ℕ) → List (List ℕ)
state_texts pass f = cond pass (cond (is_some f) [] (codes "flags" ∷ codes "any" ∷ []) ++ (codes "keep" ∷ codes "state" ∷ [])) []

begins_flags : (f : Option (ℕ × ℕ)) (rest : List (List ℕ)) → BeginsOption rest → BeginsOption (flags_texts f ++ rest)
begins_flags None rest h = h
begins_flags (Some f) rest h = begins_so opens_flags

begins_type : (i : Option ℕ) (rest : List (List ℕ)) → BeginsOption rest → BeginsOption (type_texts i ++ rest)
begins_type None rest h = h
begins_type (Some i) rest h = begins_so opens_icmp

pub begins_tagged : (k : Option ℕ) (rest : List (List ℕ)) → BeginsOption rest → BeginsOption (tag_texts k ++ rest)
begins_tagged None rest h = h
begins_tagged (Some k) rest h = begins_so opens_tagged

pub begins_tag : (k : Option ℕ) (rest : List (List ℕ)) → BeginsOption rest → BeginsOption (tag_words k ++ rest)
begins_tag None rest h = h
begins_tag (Some k) rest h = begins_so opens_tag

begins_state : (pass : Bool) (f : Option (ℕ × ℕ)) → BeginsOption (state_texts pass f)
begins_state false f = no_words
begins_state true None = begins_so opens_flags
begins_state true (Some f) = begins_so opens_keep

-- the tags that are known between the parts of a rule
pub known_between : (a b : ℕ → Option ℕ) (known last : ℕ) → option_and_then b (a known) ≡ Some last → (middle : ℕ) × (a known ≡ Some middle) × (b middle ≡ Some last)
known_between a b known last h = by (a known) refl h
  where
    by : (o : Option ℕ) → a known ≡ o → option_and_then b o ≡ Some last → (middle : ℕ) × (a known ≡ Some middle) × (b middle ≡ Some last)
    by None e k = absurd cc
    by (Some m) e k = (m, e, k)

module _ (laws : Laws) (site : Site) (orderly : IsOrderly site) (n : ℕ) (c : PfConfig) where
  abbrev pub with_filter : PfRule → ℕ → PfConfig
  with_filter r known = record c { filter = c.filter ++ r ∷ []; tags = names known }

  way_taken : (verb : Verb) (way : Way) (o : Told) (rest : List (List ℕ)) → IsFilter verb
      → whole site n (text_at c) (draft_at verb false ways.Both (seen [] [] [] [] [] []) o (first_at verb)) (way_words way ++ rest)
      ≡ whole site n (text_at c) (draft_at verb false way (seen [] [] [] [] [] []) o (next_way way (first_at verb))) rest
  way_taken _ ways.Both o rest blocks = refl
  way_taken _ ways.Inward o rest blocks = refl
  way_taken _ ways.Outward o rest blocks = refl
  way_taken _ ways.Both o rest passes = refl
  way_taken _ ways.Inward o rest passes = refl
  way_taken _ ways.Outward o rest passes = refl

  first_ahead : (verb : Verb) → IsFilter verb → AheadOfOn (first_at verb)
  first_ahead _ blocks = at_answer
  first_ahead _ passes = at_way

  module _ (way : Way) (lits : List Lit) (is : IsDivided site lits) (tag : Option ℕ) (known middle last : ℕ) (few : known ≤ 2 ^ 32) (asks : behind_cond lits known ≡ Some middle)
      (puts : behind_put tag middle ≡ Some last) where
    abbrev cs : List Choice
    cs = (flags_choices is.options.flags ++ type_choices is.options.type) ++ tag_choices is.options.tag

    abbrev last_told : Bool → Bool → Told
    last_told has_flags has_state = told cs has_flags (is_some is.options.flags) (is_some is.options.type) has_state (is_some tag) (is_some is.options.tag) tag None last

    -- the options of a rule
    options_read : (verb : Verb) (rest : List (List ℕ)) → IsFilter verb
        → whole site n (text_at c) (draft_at verb false way (seen_at lits) (nothing_told (names known)) expect.Option) (options_words lits ++ (tag_words tag ++ rest))
        ≡ whole site n (text_at c) (draft_at verb false way (seen_at lits) (last_told (is_some is.options.flags) false) expect.Option) rest
    options_read verb rest filter =
        let t = text_at c in
        let s = seen_at lits in
        let f = is.options.flags in
        let i = is.options.type in
        let k = is.options.tag in
        let later = tag_words tag ++ rest in
        let o0 : Told = nothing_told (names known) in
        let o1 : Told = told (flags_choices f) (is_some f) (is_some f) false false false false None None known in
        let o2 : Told = told (flags_choices f ++ type_choices i) (is_some f) (is_some f) (is_some i) false false false None None known in
        let o3 : Told = told cs (is_some f) (is_some f) (is_some i) false false (is_some k) None None middle in
        let asked : behind_put k known ≡ Some middle = sym (is.tags known ∙ is.options.tags known) ∙ asks in
        let known2 : AreKnown laws site n t false way s o2 known = record { tags = refl; few = few } in
        let known3 : AreKnown laws site n t false way s (told_tagged true k middle o2) middle = tagged_known laws site n t false way s true k o2 known middle known2 asked in
        let few3 : middle ≤ 2 ^ 32 = known3.few in
        let known3 : AreKnown laws site n t false way s o3 middle = record { tags = refl; few = few3 } in
        ap (λ (ws : List (List ℕ)). whole site n t (draft_at verb false way s o0 expect.Option) (ws ++ later)) (is.words ∙ is.options.words)
        ∙ ap (whole site n t (draft_at verb false way s o0 expect.Option))
        (append_assoc (flags_texts f) (type_texts i ++ tag_texts k) later ∙ ap (λ (ws : List (List ℕ)). flags_texts f ++ ws) (append_assoc (type_texts i) (tag_texts k) later))
        ∙ flags_taken laws site n t false way s f verb o0 (type_texts i ++ (tag_texts k ++ later)) filter (flags_fit f is.options.flags_printed) refl
        ∙ ap (λ o. whole site n t (draft_at verb false way s o expect.Option) (type_texts i ++ (tag_texts k ++ later))) (flags_told f known)
        ∙ type_taken laws site n t false way s i verb o1 (tag_texts k ++ later) filter (type_fits i is.options.type_printed) refl
        ∙ ap (λ o. whole site n t (draft_at verb false way s o expect.Option) (tag_texts k ++ later)) (type_told i (flags_choices f) (is_some f) known)
        ∙ tagged_taken laws site n t false way s k verb o2 known middle later filter known2 asked refl
        ∙ ap (λ o. whole site n t (draft_at verb false way s o expect.Option) later) (tagged_told k (flags_choices f ++ type_choices i) (is_some f) (is_some i) known middle asked)
        ∙ tag_taken laws site n t false way s tag verb o3 middle last rest filter known3 puts refl
        ∙ ap (λ o. whole site n t (draft_at verb false way s o expect.Option) rest) (tag_told tag cs (is_some f) (is_some i) (is_some k) middle last puts)
      where
        flags_fit : (f : Option (ℕ × ℕ)) → IfSome f (λ f. (nat_eq (protocol_tested lits) 6 && are_flags f.0 f.1) ≡ true) → IfSome f (λ f. are_flags f.0 f.1 ≡ true)
        flags_fit None h = tt
        flags_fit (Some f) h = (and_parts (nat_eq (protocol_tested lits) 6) (are_flags f.0 f.1) h).1

        type_fits : (i : Option ℕ) → IfSome i (λ k. (nat_eq (protocol_tested lits) 1 && is_number 255 (one k k)) ≡ true) → IfSome i (λ k. is_number 255 (one k k) ≡ true)
        type_fits None h = tt
        type_fits (Some k) h = (and_parts (nat_eq (protocol_tested lits) 1) (is_number 255 (one k k)) h).1

    -- state is kept, whatever the flags
    state_taken : (f : Option (ℕ × ℕ)) (o : Told) → o.has_flags ≡ is_some f → o.has_state ≡ false
        → whole site n (text_at c) (draft_at verbs.Pass false way (seen_at lits) o expect.Option) (state_texts true f)
        ≡ whole site n (text_at c) (draft_at verbs.Pass false way (seen_at lits) (record o { has_flags = true; has_state = true }) expect.Option) []
    state_taken None o h k =
        any_taken laws site n (text_at c) false way (seen_at lits) o (codes "keep" ∷ codes "state" ∷ []) h
        ∙ kept_taken laws site n (text_at c) false way (seen_at lits) (record o { has_flags = true }) [] k
    state_taken (Some f) o h k =
        kept_taken laws site n (text_at c) false way (seen_at lits) o [] k
        ∙ ap (λ b. whole site n (text_at c) (draft_at verbs.Pass false way (seen_at lits) (record o { has_flags = b; has_state = true }) expect.Option) []) h

    single_told : AreSingle cs (opts site lits is)
    single_told = options_single is.options.flags is.options.type is.options.tag

    block_done : (b : Bool) → done site n (text_at c) (draft_at verbs.Block false way (seen_at lits) (last_told b false) expect.Option)
        ≡ Ok (text_at (with_filter (record { pass = false; way = way; quick = false; cond = lits; tag = tag; keep = false }) last))
    block_done b = made site n c (draft_at verbs.Block false way (seen_at lits) (last_told b false) expect.Option) lits (draft_single site lits is cs single_told) refl (protocols_there site lits is false never)

    pass_done : done site n (text_at c) (draft_at verbs.Pass false way (seen_at lits) (last_told true true) expect.Option)
        ≡ Ok (text_at (with_filter (record { pass = true; way = way; quick = false; cond = lits; tag = tag; keep = true }) last))
    pass_done = made site n c (draft_at verbs.Pass false way (seen_at lits) (last_told true true) expect.Option) lits (draft_single site lits is cs single_told) refl (protocols_there site lits is false never)

    state_same : (pass : Bool) → state_words pass lits ≡ state_texts pass is.options.flags
    state_same pass = ap (λ b. cond pass (cond b [] (codes "flags" ∷ codes "any" ∷ []) ++ (codes "keep" ∷ codes "state" ∷ [])) []) (flags_tested site lits is)

    -- all words of a rule behind its action
    front_taken : (verb : Verb) (pass : Bool) → IsFilter verb
        → whole site n (text_at c) (draft_at verb false ways.Both (seen [] [] [] [] [] []) (nothing_told (names known)) (first_at verb))
        (way_words way ++ (front_words site lits ++ (options_words lits ++ (tag_words tag ++ state_words pass lits))))
        ≡ whole site n (text_at c) (draft_at verb false way (seen_at lits) (last_told (is_some is.options.flags) false) expect.Option) (state_texts pass is.options.flags)
    front_taken verb pass filter =
        let t = text_at c in
        let o : Told = nothing_told (names known) in
        let state = state_texts pass is.options.flags in
        let later = options_words lits ++ (tag_words tag ++ state) in
        let begins : BeginsOption later = subst (λ (ws : List (List ℕ)). BeginsOption (ws ++ (tag_words tag ++ state))) (sym (is.words ∙ is.options.words))
        (subst BeginsOption (sym (append_assoc (flags_texts is.options.flags) (type_texts is.options.type ++ tag_texts is.options.tag) (tag_words tag ++ state)))
        (begins_flags is.options.flags _
        (subst BeginsOption (sym (append_assoc (type_texts is.options.type) (tag_texts is.options.tag) (tag_words tag ++ state)))
        (begins_type is.options.type _ (begins_tagged is.options.tag _ (begins_tag tag _ (begins_state pass is.options.flags))))))) in
        ap (λ (ws : List (List ℕ)). whole site n t (draft_at verb false ways.Both (seen [] [] [] [] [] []) o (first_at verb)) (way_words way ++ (front_words site lits ++ (options_words lits ++ (tag_words tag ++ ws))))) (state_same pass)
        ∙ way_taken verb way o (front_words site lits ++ later) filter
        ∙ front_read site n t laws orderly verb false way lits o (next_way way (first_at verb)) later is.via is.proto is.src (λ h. (and_parts (is_port_protocol (protocol_tested lits)) _ (is.sport h)).1) is.dst
        (λ h. (and_parts (is_port_protocol (protocol_tested lits)) _ (is.dport h)).1) (ahead_of_way way (first_at verb) (first_ahead verb filter)) begins
        ∙ options_read verb state filter

    pub block_read : whole site n (text_at c) (draft_at verbs.Block false ways.Both (seen [] [] [] [] [] []) (nothing_told (names known)) expect.Answer)
        (way_words way ++ (front_words site lits ++ (options_words lits ++ (tag_words tag ++ state_words false lits))))
        ≡ Ok (text_at (with_filter (record { pass = false; way = way; quick = false; cond = lits; tag = tag; keep = false }) last))
    block_read = front_taken verbs.Block false blocks ∙ block_done (is_some is.options.flags)

    pub pass_read : whole site n (text_at c) (draft_at verbs.Pass false ways.Both (seen [] [] [] [] [] []) (nothing_told (names known)) expect.Way)
        (way_words way ++ (front_words site lits ++ (options_words lits ++ (tag_words tag ++ state_words true lits))))
        ≡ Ok (text_at (with_filter (record { pass = true; way = way; quick = false; cond = lits; tag = tag; keep = true }) last))
    pass_read = front_taken verbs.Pass true passes ∙ state_taken is.options.flags (last_told (is_some is.options.flags) false) refl refl ∙ pass_done
