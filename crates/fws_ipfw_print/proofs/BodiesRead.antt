-- A whole rule behind its number is read as that rule.
use Rattle.std.proofs.Common.{◌≡◌, ℕ, Bool, true, false, cond, ◌||◌, not, Option, None, Ok, Err, List, [], ◌∷◌, ◌++◌, map, codes, decimal, refl, ap, ap₂, sym, ◌∙◌, append_assoc, arith}
use Rattle.std.proofs.lemmas.Bool.{and_from, and_parts}
use Rattle.std.proofs.lemmas.List.{map-append}
use Rattle.std.proofs.lemmas.List.Folds.{list_all-append}
use Rattle.std.specs.List.{flat_map, list_all, list_any}
use Rattle.std.specs.Str.{bytes_eq}
use Rattle.fws_num.specs.Services.{service_of}
use Rattle.fws_net.specs.declared.cause.Cause.TheVariants.{Syntax, LeftOut}
use Rattle.fws_net.specs.declared.condition.Lit.{Lit}
use Rattle.fws_net.specs.declared.condition.Test.TheVariants.{Src, Dst}
use Rattle.fws_net.specs.declared.site.Site.{Site}
use Rattle.fws_net.specs.Reading.{and_then}
use Rattle.fws_net.specs.SiteLaws.{IsOrderly}
use Rattle.fws_ipfw.specs.declared.config.IpfwAct.{IpfwAct}
use Rattle.fws_ipfw.specs.declared.config.IpfwAct.TheVariants as acts
use Rattle.fws_ipfw.specs.declared.config.IpfwTag.{IpfwTag}
use Rattle.fws_ipfw.specs.declared.config.IpfwTag.TheVariants as tags
use Rattle.fws_ipfw.specs.declared.config.IpfwRule.{IpfwRule}
use Rattle.fws_ipfw.specs.declared.draft.Defined.{Defined}
use Rattle.fws_ipfw.specs.declared.draft.Expects.TheVariants as expect
use Rattle.fws_ipfw.specs.declared.draft.RuleDraft.{RuleDraft}
use Rattle.fws_ipfw.specs.Options.{action_word, test_option}
use Rattle.fws_ipfw.specs.RuleText.{allows, fresh_rule, may_end, rule_drawn}
use Rattle.fws_ipfw.specs.Soundness.{is_check, is_everywhere, leaves_tags}
use Rattle.fws_ipfw_print.specs.Printable.{ascend, is_printed_cond, is_printed_literal, is_printed_tag}
use Rattle.fws_ipfw_print.specs.PrintedText.{act_words, behind_place, body_words, condition_words, destination_word, keep_words, literal_words, name_word, protocol_word, source_word, tag_words}
use Rattle.fws_ipfw_print.proofs.Basics.{never}
use Rattle.fws_ipfw_print.proofs.Laws.{Laws}
use Rattle.fws_ipfw_print.proofs.LineWords.{is_writable, word_then}
use Rattle.fws_ipfw_print.proofs.LiteralsRead.{lits_taken}
use Rattle.fws_ipfw_print.proofs.OptionsRead.{keep_fresh, literal_texts, options_at, read, step}
use Rattle.fws_ipfw_print.proofs.RulesRead.{ActFits, act_then, AreAddresses, begun_at, behind_printed, behind_rises, destination_known, destination_taken, divided, front_at, IsProtocol, protocol_known, protocol_taken, source_known, source_taken, tag_then}
use Rattle.fws_ipfw_print.proofs.Tame.{is_tame, more, number_tame, tames_same, tames_writable}

-- Texts of a rule

abbrev condition_texts : Site → List Lit → List (List ℕ)
condition_texts site lits =
    let behind_protocol = behind_place 0 lits in
    let behind_source = behind_place 1 behind_protocol in
    let options = behind_place 2 behind_source in
    protocol_word lits ∷ codes "from" ∷ source_word behind_protocol ∷ codes "to" ∷ destination_word behind_source ∷ flat_map (literal_texts site) options

abbrev pub body_texts : Site → IpfwRule → List (List ℕ)
body_texts site r = cond (is_check r.act) (act_words r.act) (act_words r.act ++ (tag_words r.tag ++ condition_texts site r.cond ++ keep_words r.keep))

-- texts that are written as these words
pub record AreShown (texts words : List (List ℕ)) : Type 0 where
  pub shown : map name_word texts ≡ words
  pub writable : list_all is_writable texts ≡ true

pub shown_tame : (words : List (List ℕ)) → list_all is_tame words ≡ true → AreShown words words
shown_tame words h = record { shown = tames_same words h; writable = tames_writable words h }

pub shown_both : (a b v w : List (List ℕ)) → AreShown a v → AreShown b w → AreShown (a ++ b) (v ++ w)
shown_both a b v w h k = record {
  shown = map-append name_word a b ∙ ap₂ (λ x y. x ++ y) h.shown k.shown;
  writable = list_all-append is_writable a b ∙ and_from (list_all is_writable a) (list_all is_writable b) h.writable k.writable;
}

keep_tame : (keep : Bool) → list_all is_tame (keep_words keep) ≡ true
keep_tame true = refl
keep_tame false = refl

-- Keeping state

abbrev kept : Bool → Bool → List (List ℕ) → List Lit → RuleDraft → RuleDraft
kept true first given lits d = record (options_at first (given ++ codes "keep-state" ∷ []) lits d) { keep = true; expects = expect.KeptFlow }
kept false first given lits d = options_at first given lits d

keep_taken : (site : Site) (known : List Defined) (keep first : Bool) (given : List (List ℕ)) (lits : List Lit) (d : RuleDraft) → (keep ≡ true → allows d.act ≡ true)
    → list_any (bytes_eq (codes "keep-state")) given ≡ false → read site known (options_at first given lits d) (keep_words keep) ≡ Ok (kept keep first given lits d)
unfolding service_of test_option
keep_taken site known false first given lits d h fresh = refl
keep_taken site known true true given lits d h fresh =
    let e : RuleDraft = options_at true (given ++ codes "keep-state" ∷ []) lits d in
    word_then (step site known) (codes "keep-state") [] (options_at true given lits d) (kept true true given lits d)
    (ap (λ b. cond b (and_then (cond (list_any (bytes_eq (codes "keep-state")) given) (Err Syntax) (Ok e)) (λ (e : RuleDraft). Ok (record e { keep = true; expects = expect.KeptFlow }))) (Err LeftOut)) (h refl)
    ∙ ap (λ b. and_then (cond b (Err Syntax) (Ok e)) (λ (e : RuleDraft). Ok (record e { keep = true; expects = expect.KeptFlow }))) fresh)
keep_taken site known true false given lits d h fresh =
    let e : RuleDraft = options_at false (given ++ codes "keep-state" ∷ []) lits d in
    word_then (step site known) (codes "keep-state") [] (options_at false given lits d) (kept true false given lits d)
    (ap (λ b. cond b (and_then (cond (list_any (bytes_eq (codes "keep-state")) given) (Err Syntax) (Ok e)) (λ (e : RuleDraft). Ok (record e { keep = true; expects = expect.KeptFlow }))) (Err LeftOut)) (h refl)
    ∙ ap (λ b. and_then (cond b (Err Syntax) (Ok e)) (λ (e : RuleDraft). Ok (record e { keep = true; expects = expect.KeptFlow }))) fresh)

kept_ends : (keep first : Bool) (given : List (List ℕ)) (lits : List Lit) (d : RuleDraft) → may_end (kept keep first given lits d).expects ≡ true
kept_ends true first given lits d = refl
kept_ends false true given lits d = refl
kept_ends false false given lits d = refl

kept_drawn : (number : ℕ) (keep first : Bool) (given : List (List ℕ)) (lits : List Lit) (act : IpfwAct) (tag : IpfwTag) (some : List Lit) (protocol : Option ℕ)
    → rule_drawn number (kept keep first given lits (begun_at expect.DestinationPorts act tag some protocol)) ≡ record { number = number; cond = lits; act = act; tag = tag; keep = keep }
kept_drawn number true first given lits act tag some protocol = refl
kept_drawn number false first given lits act tag some protocol = refl

kept_ports : (keep first : Bool) (given : List (List ℕ)) (lits : List Lit) (d : RuleDraft) → d.has_ports ≡ false → (kept keep first given lits d).has_ports ≡ false
kept_ports true first given lits d h = h
kept_ports false first given lits d h = h

-- The whole rule

pub record RuleTaken (site : Site) (known : List Defined) (r : IpfwRule) : Type 0 where
  pub draft : RuleDraft
  pub taken : read site known fresh_rule (body_texts site r) ≡ Ok draft
  pub ends : may_end draft.expects ≡ true
  pub drawn : rule_drawn r.number draft ≡ r
  pub ports : draft.has_ports ≡ false
  pub body : AreShown (body_texts site r) (body_words site r)

pub implied : (keep b : Bool) → (not keep || b) ≡ true → keep ≡ true → b ≡ true
implied true b h k = h
implied false b h k = never k

pub no_keep : (keep : Bool) → (not keep || false) ≡ true → keep ≡ false
no_keep true h = never h
no_keep false h = refl

pub everywhere : (lits : List Lit) → is_everywhere lits ≡ true → lits ≡ []
everywhere [] h = refl
everywhere (lit ∷ lits) h = never h

pub no_tag : (tag : IpfwTag) → leaves_tags tag ≡ true → tag ≡ tags.Nothing
no_tag tags.Nothing h = refl
no_tag (tags.Add n) h = never h
no_tag (tags.Remove n) h = never h

module _ (laws : Laws) (site : Site) (orderly : IsOrderly site) (known : List Defined) where
  act_shown : (act : IpfwAct) → list_all is_tame (act_words act) ≡ true
  act_shown acts.Allow = refl
  act_shown acts.Deny = refl
  act_shown acts.Count = refl
  act_shown (acts.Skip n) = more (codes "skipto") (decimal n ∷ []) refl (more (decimal n) [] (number_tame laws n) refl)
  act_shown acts.Check = refl
  act_shown (acts.Nat n) = more (codes "nat") (decimal n ∷ []) refl (more (decimal n) [] (number_tame laws n) refl)

  tag_shown : (tag : IpfwTag) → list_all is_tame (tag_words tag) ≡ true
  tag_shown tags.Nothing = refl
  tag_shown (tags.Add n) = more (codes "tag") (decimal n ∷ []) refl (more (decimal n) [] (number_tame laws n) refl)
  tag_shown (tags.Remove n) = refl

  -- what is known of a condition that is printed
  record Parts (lits : List Lit) : Type 0 where
    protocol : IsProtocol (protocol_word lits) (front_at 0 lits)
    source : AreAddresses site Src (source_word (behind_place 0 lits)) (front_at 1 (behind_place 0 lits))
    destination : AreAddresses site Dst (destination_word (behind_place 1 (behind_place 0 lits))) (front_at 2 (behind_place 1 (behind_place 0 lits)))
    rises : ascend 3 (behind_place 2 (behind_place 1 (behind_place 0 lits))) ≡ true
    printed : list_all (is_printed_literal site) (behind_place 2 (behind_place 1 (behind_place 0 lits))) ≡ true

  parts : (lits : List Lit) → is_printed_cond site lits ≡ true → Parts lits
  parts lits h =
      let both = and_parts (ascend 0 lits) (list_all (is_printed_literal site) lits) h in
      let first = behind_printed site 0 lits both.1 in
      let second = behind_printed site 1 (behind_place 0 lits) first in
      record {
        protocol = protocol_known laws site lits both.1;
        source = source_known laws site (behind_place 0 lits) first;
        destination = destination_known laws site (behind_place 1 (behind_place 0 lits)) second;
        rises = behind_rises 2 (behind_place 1 (behind_place 0 lits)) (behind_rises 1 (behind_place 0 lits) (behind_rises 0 lits both.0));
        printed = behind_printed site 2 (behind_place 1 (behind_place 0 lits)) second;
      }

  all_divided : (lits : List Lit) → front_at 0 lits ++ front_at 1 (behind_place 0 lits) ++ front_at 2 (behind_place 1 (behind_place 0 lits)) ++ behind_place 2 (behind_place 1 (behind_place 0 lits)) ≡ lits
  all_divided lits =
      let b0 = behind_place 0 lits in
      let b1 = behind_place 1 b0 in
      let f0 = front_at 0 lits in
      let f1 = front_at 1 b0 in
      append_assoc (f0 ++ f1) (front_at 2 b1) (behind_place 2 b1)
      ∙ ap (λ l. f0 ++ f1 ++ l) (divided 2 b1) ∙ append_assoc f0 f1 b1 ∙ ap (λ l. f0 ++ l) (divided 1 b0) ∙ divided 0 lits

  pub tested : (number : ℕ) (act : IpfwAct) (tag : IpfwTag) (lits : List Lit) (keep : Bool) → is_check act ≡ false → ActFits known act → is_printed_tag tag ≡ true → is_printed_cond site lits ≡ true
      → (keep ≡ true → allows act ≡ true) → RuleTaken site known (record { number = number; cond = lits; act = act; tag = tag; keep = keep })
  tested number act tag lits keep other fits tagged printed keeps =
      let r : IpfwRule = record { number = number; cond = lits; act = act; tag = tag; keep = keep } in
      let is = parts lits printed in
      let b0 = behind_place 0 lits in
      let b1 = behind_place 1 b0 in
      let b2 = behind_place 2 b1 in
      let f0 = front_at 0 lits in
      let f1 = front_at 1 b0 in
      let f2 = front_at 2 b1 in
      let protocol = is.protocol.protocol in
      let base : RuleDraft = begun_at expect.DestinationPorts act tag (f0 ++ f1 ++ f2) protocol in
      let some = lits_taken laws site orderly known 3 true [] (f0 ++ f1 ++ f2) b2 base (omega arith) (omega arith) is.rises is.printed refl in
      let options = flat_map (literal_texts site) b2 in
      let words = keep_words keep in
      let tail = options ++ words in
      let first = stays b2 in
      let draft : RuleDraft = kept keep first some.keys lits base in
      let front = tame_front lits is in
      let body : AreShown (act_words act ++ (tag_words tag ++ condition_texts site lits ++ words)) (act_words act ++ (tag_words tag ++ condition_words site lits ++ words)) =
      shown_both (act_words act) (tag_words tag ++ condition_texts site lits ++ words) (act_words act) (tag_words tag ++ condition_words site lits ++ words) (shown_tame (act_words act) (act_shown act))
      (shown_both (tag_words tag ++ condition_texts site lits) words (tag_words tag ++ condition_words site lits) words
      (shown_both (tag_words tag) (condition_texts site lits) (tag_words tag) (condition_words site lits) (shown_tame (tag_words tag) (tag_shown tag))
      (shown_both (front_words lits) options (front_words lits) (flat_map (literal_words site) b2) (shown_tame (front_words lits) front) (record { shown = some.shown; writable = some.writable })))
      (shown_tame words (keep_tame keep))) in
      record {
        draft = draft;
        taken = ap (λ b. read site known fresh_rule (cond b (act_words act) (act_words act ++ (tag_words tag ++ condition_texts site lits ++ words)))) other
            ∙ act_then laws site known act (tag_words tag ++ condition_texts site lits ++ words) fits
            ∙ ap (read site known (begun_at expect.Log act tags.Nothing [] None)) (append_assoc (tag_words tag) (condition_texts site lits) words)
            ∙ tag_then laws site known act tag (condition_texts site lits ++ words) tagged
            ∙ word_then (step site known) (protocol_word lits) (codes "from" ∷ source_word b0 ∷ codes "to" ∷ destination_word b1 ∷ tail) _ (begun_at expect.From act tag f0 protocol)
            (protocol_taken laws site known act tag (protocol_word lits) f0 is.protocol tagged)
            ∙ word_then (step site known) (source_word b0) (codes "to" ∷ destination_word b1 ∷ tail) (begun_at (expect.Source false) act tag f0 protocol) (begun_at expect.SourcePorts act tag (f0 ++ f1) protocol)
            (source_taken laws site known act tag f0 protocol (source_word b0) f1 is.source)
            ∙ word_then (step site known) (destination_word b1) tail (begun_at (expect.Destination false) act tag (f0 ++ f1) protocol) base
            (destination_taken laws site known act tag (f0 ++ f1) protocol (destination_word b1) f2 is.destination)
            ∙ some.taken words
            ∙ ap (λ l. read site known (options_at first some.keys l base) words) (all_divided lits)
            ∙ keep_taken site known keep first some.keys lits base keeps (keep_fresh some.keys some.below);
        ends = kept_ends keep first some.keys lits base;
        drawn = kept_drawn number keep first some.keys lits act tag (f0 ++ f1 ++ f2) protocol;
        ports = kept_ports keep first some.keys lits base refl;
        body = shown_by act tag lits keep other body;
      }
    where
      stays : List Lit → Bool
      stays [] = true
      stays (lit ∷ lits) = false

      front_words : List Lit → List (List ℕ)
      front_words lits = protocol_word lits ∷ codes "from" ∷ source_word (behind_place 0 lits) ∷ codes "to" ∷ destination_word (behind_place 1 (behind_place 0 lits)) ∷ []

      tame_front : (lits : List Lit) → Parts lits → list_all is_tame (front_words lits) ≡ true
      tame_front lits is =
          let sources = source_word (behind_place 0 lits) in
          let destinations = destination_word (behind_place 1 (behind_place 0 lits)) in
          more (protocol_word lits) (codes "from" ∷ sources ∷ codes "to" ∷ destinations ∷ []) is.protocol.tame
          (more (codes "from") (sources ∷ codes "to" ∷ destinations ∷ []) refl
          (more sources (codes "to" ∷ destinations ∷ []) is.source.tame (more (codes "to") (destinations ∷ []) refl (more destinations [] is.destination.tame refl))))

      shown_by : (act : IpfwAct) (tag : IpfwTag) (lits : List Lit) (keep : Bool) → is_check act ≡ false
          → AreShown (act_words act ++ (tag_words tag ++ condition_texts site lits ++ keep_words keep)) (act_words act ++ (tag_words tag ++ condition_words site lits ++ keep_words keep))
          → AreShown (cond (is_check act) (act_words act) (act_words act ++ (tag_words tag ++ condition_texts site lits ++ keep_words keep)))
          (cond (is_check act) (act_words act) (act_words act ++ (tag_words tag ++ condition_words site lits ++ keep_words keep)))
      shown_by acts.Allow tag lits keep other body = body
      shown_by acts.Deny tag lits keep other body = body
      shown_by acts.Count tag lits keep other body = body
      shown_by (acts.Skip n) tag lits keep other body = body
      shown_by acts.Check tag lits keep other body = never (sym other)
      shown_by (acts.Nat n) tag lits keep other body = body

  pub checked_read : (number : ℕ) (tag : IpfwTag) (lits : List Lit) (keep : Bool) → lits ≡ [] → tag ≡ tags.Nothing → keep ≡ false
      → RuleTaken site known (record { number = number; cond = lits; act = acts.Check; tag = tag; keep = keep })
  unfolding action_word
  checked_read number tag lits keep none same off =
      let draft : RuleDraft = record fresh_rule { act = acts.Check; expects = expect.Flow } in
      record {
        draft = draft;
        taken = refl;
        ends = refl;
        drawn = ap (λ (l : List Lit). let r : IpfwRule = record { number = number; cond = l; act = acts.Check; tag = tags.Nothing; keep = false } in r) (sym none)
            ∙ ap (λ (t : IpfwTag). let r : IpfwRule = record { number = number; cond = lits; act = acts.Check; tag = t; keep = false } in r) (sym same)
            ∙ ap (λ (k : Bool). let r : IpfwRule = record { number = number; cond = lits; act = acts.Check; tag = tag; keep = k } in r) (sym off);
        ports = refl;
        body = shown_tame (codes "check-state" ∷ []) refl;
      }
