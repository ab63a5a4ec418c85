-- What stands ahead of the options of a rule is read word by word.
use Rattle.std.proofs.Common.{append-nil, ◌≡◌, ◌≢◌, ℕ, ◌+◌, ◌-◌, ◌^◌, ◌<◌, ◌≤◌, Bool, true, false, cond, not, nat_eq, nat_le, Option, Some, None, Result, Ok, Err, List, [], ◌∷◌, ◌++◌, length, codes, decimal, refl, ap, ap₂, sym, ◌∙◌, inl, inr, arith, append_assoc}
use Rattle.std.proofs.lemmas.Bool.{and_parts, or_parts, or_cases, leb-true, eqb-true, eqb-false, not-true, cases_Bool}
use Rattle.std.proofs.lemmas.Slice.Eq.{bytes_eq-Decides}
use Rattle.std.specs.List.{list_all, list_any}
use Rattle.std.specs.Option.{option_map_or}
use Rattle.std.specs.Str.{bytes_eq}
use Rattle.fws_num.specs.declared.word.Word.{Word}
use Rattle.fws_num.specs.Numbers.{dotted, quad_of}
use Rattle.fws_num.specs.Words.{plain_word}
use Rattle.fws_iv.specs.declared.iv.Iv.{Iv}
use Rattle.fws_net.specs.declared.cause.Cause.{Cause}
use Rattle.fws_net.specs.declared.cause.Cause.TheVariants.{Syntax}
use Rattle.fws_net.specs.declared.condition.Lit.{Lit}
use Rattle.fws_net.specs.declared.site.Site.{Site}
use Rattle.fws_net.specs.Reading.{and_then}
use Rattle.fws_net.specs.SiteLaws.{IsOrderly}
use Rattle.fws_net.specs.SiteSpelling.{net_word}
use Rattle.fws_net.specs.declared.packet.Lang.TheVariants.{Pf}
use Rattle.fws_rules.specs.Literals.{one}
use Rattle.fws_rules.specs.Names.{interface_name}
use Rattle.fws_pf.specs.declared.config.Way.{Way}
use Rattle.fws_pf.specs.declared.rule_draft.Choice.{Choice}
use Rattle.fws_pf.specs.declared.rule_draft.Expects.{Expects}
use Rattle.fws_pf.specs.declared.rule_draft.Expects.TheVariants as expect
use Rattle.fws_pf.specs.declared.rule_draft.Place.{Place}
use Rattle.fws_pf.specs.declared.rule_draft.Place.TheVariants as places
use Rattle.fws_pf.specs.declared.rule_draft.RuleDraft.{RuleDraft}
use Rattle.fws_pf.specs.declared.rule_draft.Target.{Target}
use Rattle.fws_pf.specs.declared.rule_draft.Verb.{Verb}
use Rattle.fws_pf.specs.declared.rule_draft.Verb.TheVariants as verbs
use Rattle.fws_pf.specs.declared.text_draft.PfDraft.{PfDraft}
use Rattle.fws_pf.specs.declared.value_draft.Item.{Item}
use Rattle.fws_pf.specs.declared.value_draft.Part.{Part}
use Rattle.fws_pf.specs.declared.value_draft.Part.TheVariants as parts
use Rattle.fws_pf.specs.declared.value_draft.ValueDraft.{ValueDraft}
use Rattle.fws_pf.specs.declared.value_draft.ValueExpects.TheVariants as values
use Rattle.fws_pf.specs.declared.value_draft.ValueKind.{ValueKind}
use Rattle.fws_pf.specs.declared.value_draft.ValueKind.TheVariants as kinds
use Rattle.fws_pf.specs.Drawn.{rule_ended}
use Rattle.fws_pf.specs.FileText.{rule_put}
use Rattle.fws_pf.specs.Drafts.{is_translation}
use Rattle.fws_pf.specs.Keywords.{option_word}
use Rattle.fws_pf.specs.RuleText.{asking, behind, rule_step, translation_option_step, value_taken, valued, word_step}
use Rattle.fws_pf.specs.Statements.{is_mark}
use Rattle.fws_pf.specs.Values.{Setting, after_part, begins_with_digit, fresh_value, host_part, host_word, interface_part, is_any_mark, item_step, marks, operator_named, part_taken, plain_step, port_range_part, port_word, protocol_part, taken, value_expecting, with_part}
use Rattle.fws_print.specs.Sets.{is_interface, is_number, is_range}
use Rattle.fws_pf_print.specs.Printable.{tested}
use Rattle.fws_print.specs.Words.{protocol_name}
use Rattle.fws_pf_print.specs.PrintedText.{addresses_words, between_words, front_words, hosts_words, interface_words, name_word, network_len, ports_word, ports_words, protocol_words, sides_words, tests_hosts}
use Rattle.fws_pf_print.proofs.Basics.{if_true, if_false, never, option_cases}
use Rattle.fws_pf_print.proofs.Laws.{Laws}
use Rattle.fws_pf_print.proofs.LineWords.{bare_at, bare_bytes, is_bare, word_at}
use Rattle.fws_pf_print.proofs.NamesRead.{interface_named, name_read, unmarked}
use Rattle.fws_pf_print.proofs.Shapes.{none_tested}
use Rattle.fws_pf_print.proofs.ValuesRead.{address_bare, net_bare, net_no_quad, net_part, network_known, no_operator, no_quad, number_bare, port_begins, port_range_read, port_read, ports_bare, protocol_bare, protocol_read, range_no_port, range_read}

-- Drafts

-- what was read of what stands ahead of options
pub record Seen : Type 0 where
  pub faces : List Item
  pub protocols : List Item
  pub sources : List Item
  pub source_ports : List Item
  pub destinations : List Item
  pub destination_ports : List Item

abbrev pub seen : List Item → List Item → List Item → List Item → List Item → List Item → Seen
seen a b c d e f = record { faces = a; protocols = b; sources = c; source_ports = d; destinations = e; destination_ports = f }

-- what was read of options
pub record Told : Type 0 where
  pub options : List Choice
  pub has_flags : Bool
  pub tests_flags : Bool
  pub has_icmp_type : Bool
  pub has_state : Bool
  pub has_tag : Bool
  pub has_tagged : Bool
  pub tag : Option ℕ
  pub target : Option Target
  pub tags : List (List ℕ)

abbrev pub nothing_told : List (List ℕ) → Told
nothing_told tags = record {
  options = [];
  has_flags = false;
  tests_flags = false;
  has_icmp_type = false;
  has_state = false;
  has_tag = false;
  has_tagged = false;
  tag = None;
  target = None;
  tags = tags;
}

abbrev pub draft_at : Verb → Bool → Way → Seen → Told → Expects → RuleDraft
draft_at verb negated way s o next = record {
  verb = verb;
  negated = negated;
  expects = next;
  value = fresh_value kinds.Interface;
  past = false;
  way = way;
  quick = false;
  faces = s.faces;
  protocols = s.protocols;
  sources = s.sources;
  source_ports = s.source_ports;
  destinations = s.destinations;
  destination_ports = s.destination_ports;
  options = o.options;
  has_flags = o.has_flags;
  tests_flags = o.tests_flags;
  has_icmp_type = o.has_icmp_type;
  has_state = o.has_state;
  stateless = false;
  has_tag = o.has_tag;
  has_tagged = o.has_tagged;
  has_label = false;
  tag = o.tag;
  target = o.target;
  tags = o.tags;
}

-- a value is asked for
abbrev pub asked : Place → ValueKind → RuleDraft → RuleDraft
asked place kind d = record d { expects = expect.Value place; value = fresh_value kind }

-- a value stands there
abbrev pub settled : Place → ValueKind → Part → RuleDraft → RuleDraft
settled place kind part d = valued place (with_part part (fresh_value kind)) d

abbrev pub item_of : Part → Item
item_of part = record { negated = false; part = part }

-- the item of numbers that are asked for, if they are
abbrev pub items_of : List Iv → List Item
items_of [] = []
items_of (iv ∷ set) = item_of (parts.Set (iv ∷ set)) ∷ []

-- the addresses that are asked for, or every one
abbrev pub side_of : List Iv → Part
side_of [] = parts.Every
side_of (iv ∷ set) = parts.Set (iv ∷ set)

-- the item of a side, where addresses or ports are asked for
abbrev pub side_items : Bool → List Iv → List Item
side_items b set = cond b (item_of (side_of set) ∷ []) []

abbrev pub seen_at : List Lit → Seen
seen_at lits =
    seen (items_of (tested 0 lits)) (items_of (tested 1 lits)) (side_items (tests_hosts lits) (tested 2 lits)) (items_of (tested 3 lits)) (side_items (tests_hosts lits) (tested 4 lits)) (items_of (tested 5 lits))

-- Where a rule has come to

pub data AheadOfOn : Expects → Type 0 where
  at_answer : AheadOfOn expect.Answer
  at_way : AheadOfOn expect.Way
  at_log : AheadOfOn expect.Log
  at_past : AheadOfOn expect.Past

data AheadOfProto : Expects → Type 0 where
  yet : {next : Expects} → AheadOfOn next → AheadOfProto next
  behind_inet : AheadOfProto expect.Inet

data AheadOfHosts : Expects → Type 0 where
  still : {next : Expects} → AheadOfOn next → AheadOfHosts next
  at_inet : AheadOfHosts expect.Inet
  at_hosts : AheadOfHosts expect.Hosts

-- what the next word is taken for behind what may stand there
abbrev next_on : List Iv → Expects → Expects
next_on [] next = next
next_on (iv ∷ set) next = expect.Inet

abbrev next_proto : List Iv → Expects → Expects
next_proto [] next = next
next_proto (iv ∷ set) next = expect.Hosts

behind_on : (set : List Iv) (next : Expects) → AheadOfOn next → AheadOfProto (next_on set next)
behind_on [] next h = yet h
behind_on (iv ∷ set) next h = behind_inet

ahead_of_hosts : {next : Expects} → AheadOfProto next → AheadOfHosts next
ahead_of_hosts (yet h) = still h
ahead_of_hosts behind_inet = at_inet

behind_proto : (set : List Iv) (next : Expects) → AheadOfProto next → AheadOfHosts (next_proto set next)
behind_proto [] next h = ahead_of_hosts h
behind_proto (iv ∷ set) next h = at_hosts

-- words that may stand behind what is ahead of options
pub data Opener : List ℕ → Type 0 where
  opens_tag : Opener (codes "tag")
  opens_tagged : Opener (codes "tagged")
  opens_flags : Opener (codes "flags")
  opens_icmp : Opener (codes "icmp-type")
  opens_keep : Opener (codes "keep")
  opens_arrow : Opener (codes "->")

pub data BeginsOption : List (List ℕ) → Type 0 where
  no_words : BeginsOption []
  begins_so : {word : List ℕ} {words : List (List ℕ)} → Opener word → BeginsOption (word ∷ words)

-- words that may stand behind a value
data Ender : List ℕ → Type 0 where
  is_port : Ender (codes "port")
  is_to : Ender (codes "to")
  is_opener : {word : List ℕ} → Opener word → Ender word

data BeginsWell : List (List ℕ) → Type 0 where
  ends : BeginsWell []
  goes : {word : List ℕ} {words : List (List ℕ)} → Ender word → BeginsWell (word ∷ words)

option_well : (words : List (List ℕ)) → BeginsOption words → BeginsWell words
option_well _ no_words = ends
option_well _ (begins_so h) = goes (is_opener h)

-- what is known of such a word
record IsEnder (n : ℕ) (word : List ℕ) : Type 0 where
  no_dash : bytes_eq (word_at n word).text (codes "-") ≡ false
  no_inside : is_mark (word_at n word) (codes "><") ≡ false
  no_outside : is_mark (word_at n word) (codes "<>") ≡ false

ender : (n : ℕ) (word : List ℕ) → Ender word → IsEnder n word
ender n _ is_port = record { no_dash = refl; no_inside = refl; no_outside = refl }
ender n _ is_to = record { no_dash = refl; no_inside = refl; no_outside = refl }
ender n _ (is_opener opens_tag) = record { no_dash = refl; no_inside = refl; no_outside = refl }
ender n _ (is_opener opens_tagged) = record { no_dash = refl; no_inside = refl; no_outside = refl }
ender n _ (is_opener opens_flags) = record { no_dash = refl; no_inside = refl; no_outside = refl }
ender n _ (is_opener opens_icmp) = record { no_dash = refl; no_inside = refl; no_outside = refl }
ender n _ (is_opener opens_keep) = record { no_dash = refl; no_inside = refl; no_outside = refl }
ender n _ (is_opener opens_arrow) = record { no_dash = refl; no_inside = refl; no_outside = refl }

-- Punctuation

-- a word that is no punctuation isn't this one
pub mark_off : (w : Word) (mark : List ℕ) → is_any_mark w ≡ false → list_any (bytes_eq mark) marks ≡ true → is_mark w mark ≡ false
mark_off w mark h k = rows marks h k
  where
    rows : (ms : List (List ℕ)) → list_any (is_mark w) ms ≡ false → list_any (bytes_eq mark) ms ≡ true → is_mark w mark ≡ false
    rows [] h k = never k
    rows (m ∷ ms) h k =
        let off = or_parts (is_mark w m) (list_any (is_mark w) ms) h in
        elim (or_cases (bytes_eq mark m) (list_any (bytes_eq mark) ms) k) [ inl e ↦ ap (is_mark w) ((bytes_eq-Decides mark m).0 e) ∙ off.0 | inr e ↦ rows ms off.1 e ]

-- Reading

module _ (site : Site) (n : ℕ) where
  abbrev pub setting : Setting
  setting = record { site = site; tables = Some []; taken = [] }

  abbrev pub step : RuleDraft → List ℕ → Result RuleDraft Cause
  step d word = rule_step setting (word_at n word) d

  abbrev pub read : RuleDraft → List (List ℕ) → Result RuleDraft Cause
  read d [] = Ok d
  read d (word ∷ words) = and_then (step d word) (λ next. read next words)

  -- what a text says with a rule of these words
  abbrev pub done : PfDraft → RuleDraft → Result PfDraft Cause
  done t d = and_then (rule_ended d) (λ e. rule_put [] e t)

  abbrev pub whole : PfDraft → RuleDraft → List (List ℕ) → Result PfDraft Cause
  whole t d words = and_then (read d words) (done t)

module _ (site : Site) (n : ℕ) (t : PfDraft) where
  pub take : (d e : RuleDraft) (word : List ℕ) (rest : List (List ℕ)) → step site n d word ≡ Ok e → whole site n t d (word ∷ rest) ≡ whole site n t e rest
  take d e word rest h = ap (λ o. and_then (and_then o (λ next. read site n next rest)) (done site n t)) h

  pub take_bare : (d e : RuleDraft) (word : List ℕ) (rest : List (List ℕ)) → is_bare word ≡ true → rule_step (setting site n) (plain_word n word) d ≡ Ok e
      → whole site n t d (word ∷ rest) ≡ whole site n t e rest
  take_bare d e word rest bare h = take d e word rest (ap (λ (w : Word). rule_step (setting site n) w d) (bare_at n word bare) ∙ h)

  -- Values

  -- a word that begins a value
  pub begins : (place : Place) (kind : ValueKind) (w : Word) (d : RuleDraft) (v : ValueDraft) → is_any_mark w ≡ false → plain_step (setting site n) w (fresh_value kind) kind ≡ taken v
      → rule_step (setting site n) w (asked place kind d) ≡ Ok (value_taken place v (asked place kind d))
  begins place kind w d v off h =
      ap (λ o. and_then o (λ next. cond next.1 (Ok (value_taken place next.0 (asked place kind d))) (word_step (setting site n) (behind place) w (valued place next.0 (asked place kind d)))))
      (if_false (is_mark w (codes "{")) _ (item_step (setting site n) w (fresh_value kind)) (mark_off w (codes "{") off refl)
      ∙ if_false (is_mark w (codes "!")) _ (plain_step (setting site n) w (fresh_value kind) kind) (mark_off w (codes "!") off refl)
      ∙ h)

  -- a word that is read as a value of its own
  pub part_then : (w : Word) (d : ValueDraft) (part : Part) (r : Result Part Cause) → is_any_mark w ≡ false → r ≡ Ok part → cond (is_any_mark w) (Err Syntax) (part_taken r d) ≡ taken (with_part part d)
  part_then w d part r off h = if_false (is_any_mark w) (Err Syntax) (part_taken r d) off ∙ ap (λ r. part_taken r d) h

  pub plain_off : (word : List ℕ) → is_bare word ≡ true → is_any_mark (plain_word n word) ≡ false
  plain_off word bare = unmarked (plain_word n word) (bare_bytes word bare)

  -- behind a value its place isn't asked about
  behind_step : (place : Place) (v : ValueDraft) (w : Word) (d : RuleDraft) → rule_step (setting site n) w (valued place v d) ≡ word_step (setting site n) (behind place) w (valued place v d)
  behind_step places.On v w d = refl
  behind_step places.Proto v w d = refl
  behind_step places.Source v w d = refl
  behind_step places.SourcePort v w d = refl
  behind_step places.Destination v w d = refl
  behind_step places.DestinationPort v w d = refl
  behind_step places.IcmpType v w d = refl

  -- an address, and a port, which may be followed by more of the value
  abbrev at_address : Place → ℕ → RuleDraft → RuleDraft
  at_address place a d = record d { expects = expect.Value place; value = value_expecting (values.RangeSign a) (fresh_value kinds.Host) }

  abbrev at_port : Place → ℕ → RuleDraft → RuleDraft
  at_port place p d = record d { expects = expect.Value place; value = value_expecting (values.PortSign p) (fresh_value kinds.Port) }

  address_step : (place : Place) (a : ℕ) (d : RuleDraft) (word : List ℕ) → IsEnder n word → step site n (at_address place a d) word ≡ step site n (settled place kinds.Host (parts.Set (one a a)) d) word
  address_step place a d word is =
      let w : Word = word_at n word in
      let v : ValueDraft = value_expecting (values.RangeSign a) (fresh_value kinds.Host) in
      ap (λ o. and_then o (λ next. cond next.1 (Ok (value_taken place next.0 (at_address place a d))) (word_step (setting site n) (behind place) w (valued place next.0 (at_address place a d)))))
      (if_false (bytes_eq w.text (codes "-")) _ (after_part (setting site n) (parts.Set (one a a)) w v) is.no_dash)
      ∙ sym (behind_step place (with_part (parts.Set (one a a)) (fresh_value kinds.Host)) w d)

  port_step : (place : Place) (p : ℕ) (d : RuleDraft) (word : List ℕ) → IsEnder n word → step site n (at_port place p d) word ≡ step site n (settled place kinds.Port (parts.Set (one p p)) d) word
  port_step place p d word is =
      let w : Word = word_at n word in
      let v : ValueDraft = value_expecting (values.PortSign p) (fresh_value kinds.Port) in
      ap (λ o. and_then o (λ next. cond next.1 (Ok (value_taken place next.0 (at_port place p d))) (word_step (setting site n) (behind place) w (valued place next.0 (at_port place p d)))))
      (if_false (is_mark w (codes "><")) _ _ is.no_inside ∙ if_false (is_mark w (codes "<>")) _ (after_part (setting site n) (parts.Set (one p p)) w v) is.no_outside)
      ∙ sym (behind_step place (with_part (parts.Set (one p p)) (fresh_value kinds.Port)) w d)

  address_end : (place : Place) (a : ℕ) (d : RuleDraft) → done site n t (at_address place a d) ≡ done site n t (settled place kinds.Host (parts.Set (one a a)) d)
  address_end places.On a d = refl
  address_end places.Proto a d = refl
  address_end places.Source a d = refl
  address_end places.SourcePort a d = refl
  address_end places.Destination a d = refl
  address_end places.DestinationPort a d = refl
  address_end places.IcmpType a d = refl

  port_end : (place : Place) (p : ℕ) (d : RuleDraft) → done site n t (at_port place p d) ≡ done site n t (settled place kinds.Port (parts.Set (one p p)) d)
  port_end places.On p d = refl
  port_end places.Proto p d = refl
  port_end places.Source p d = refl
  port_end places.SourcePort p d = refl
  port_end places.Destination p d = refl
  port_end places.DestinationPort p d = refl
  port_end places.IcmpType p d = refl

  address_left : (place : Place) (a : ℕ) (d : RuleDraft) (rest : List (List ℕ)) → BeginsWell rest
      → whole site n t (at_address place a d) rest ≡ whole site n t (settled place kinds.Host (parts.Set (one a a)) d) rest
  address_left place a d _ ends = address_end place a d
  address_left place a d _ (goes {word = w} {words = ws} h) = ap (λ o. and_then (and_then o (λ next. read site n next ws)) (done site n t)) (address_step place a d w (ender n w h))

  port_left : (place : Place) (p : ℕ) (d : RuleDraft) (rest : List (List ℕ)) → BeginsWell rest
      → whole site n t (at_port place p d) rest ≡ whole site n t (settled place kinds.Port (parts.Set (one p p)) d) rest
  port_left place p d _ ends = port_end place p d
  port_left place p d _ (goes {word = w} {words = ws} h) = ap (λ o. and_then (and_then o (λ next. read site n next ws)) (done site n t)) (port_step place p d w (ender n w h))

  -- Interfaces and protocols

  module _ (laws : Laws) (orderly : IsOrderly site) (verb : Verb) (negated : Bool) (way : Way) where
    abbrev at : Seen → Told → Expects → RuleDraft
    at s o next = draft_at verb negated way s o next

    entry_of : (most : ℕ) (iv : Iv) (set : List Iv) → is_number most (iv ∷ set) ≡ true → (iv ∷ set ≡ one iv.lo iv.lo) × (iv.lo ≤ most)
    entry_of most iv [] h =
        let p = and_parts (nat_eq iv.lo iv.hi) (nat_le iv.hi most) h in
        let same : iv.lo ≡ iv.hi = eqb-true iv.lo iv.hi p.0 in
        let high : iv.hi ≤ most = leb-true iv.hi most p.1 in
        (ap (λ (hi : ℕ). one iv.lo hi) (sym same), omega arith)
    entry_of most iv (next ∷ set) h = never h

    on_begun : (s : Seen) (o : Told) (next : Expects) (rest : List (List ℕ)) → AheadOfOn next → whole site n t (at s o next) (codes "on" ∷ rest) ≡ whole site n t (asked places.On kinds.Interface (at s o expect.On)) rest
    on_begun s o _ rest at_answer = refl
    on_begun s o _ rest at_way = refl
    on_begun s o _ rest at_log = refl
    on_begun s o _ rest at_past = refl

    interface_read : (set : List Iv) (o : Told) (next : Expects) (rest : List (List ℕ)) → ((set ≡ [] → ⊥) → is_interface site set ≡ true) → AheadOfOn next
        → whole site n t (at (seen [] [] [] [] [] []) o next) (interface_words site set ++ rest) ≡ whole site n t (at (seen (items_of set) [] [] [] [] []) o (next_on set next)) rest
    interface_read [] o next rest h ahead = refl
    interface_read (iv ∷ set) o next rest h ahead =
        let both = and_parts (is_number (length site.faces + 1) (iv ∷ set)) (list_all (λ iv. not (nat_eq iv.lo 0)) (iv ∷ set)) (h (λ e. absurd cc)) in
        let is = entry_of (length site.faces + 1) iv set both.0 in
        let some : iv.lo ≢ 0 = eqb-false iv.lo 0 (not-true (nat_eq iv.lo 0) (and_parts (not (nat_eq iv.lo 0)) (list_all (λ iv. not (nat_eq iv.lo 0)) set) both.1).0) in
        let name = interface_name Pf site iv.lo in
        let are_named = laws.named Pf site orderly in
        let named = name_read n name (are_named.plain iv.lo (omega arith) is.1) (are_named.bytes iv.lo (omega arith) is.1) in
        let w : Word = word_at n (name_word name) in
        let d = at (seen [] [] [] [] [] []) o expect.On in
        on_begun (seen [] [] [] [] [] []) o next (name_word name ∷ rest) ahead
        ∙ take (asked places.On kinds.Interface d) (settled places.On kinds.Interface (parts.Set (one iv.lo iv.lo)) d) (name_word name) rest
        (begins places.On kinds.Interface w d (with_part (parts.Set (one iv.lo iv.lo)) (fresh_value kinds.Interface)) named.unmarked
        (part_then w (fresh_value kinds.Interface) (parts.Set (one iv.lo iv.lo)) (interface_part site w.text) named.unmarked
        (ap (interface_part site) named.text_is ∙ interface_named site are_named iv.lo (omega arith) is.1)))
        ∙ ap (λ (x : List Iv). whole site n t (at (seen (item_of (parts.Set x) ∷ []) [] [] [] [] []) o expect.Inet) rest) (sym is.0)

    proto_begun : (s : Seen) (o : Told) (next : Expects) (rest : List (List ℕ)) → AheadOfProto next → whole site n t (at s o next) (codes "proto" ∷ rest) ≡ whole site n t (asked places.Proto kinds.Protocol (at s o expect.On)) rest
    proto_begun s o _ rest (yet at_answer) = refl
    proto_begun s o _ rest (yet at_way) = refl
    proto_begun s o _ rest (yet at_log) = refl
    proto_begun s o _ rest (yet at_past) = refl
    proto_begun s o _ rest behind_inet = refl

    protocol_taken : (set : List Iv) (a : List Item) (o : Told) (next : Expects) (rest : List (List ℕ)) → ((set ≡ [] → ⊥) → is_number 255 set ≡ true) → AheadOfProto next
        → whole site n t (at (seen a [] [] [] [] []) o next) (protocol_words set ++ rest) ≡ whole site n t (at (seen a (items_of set) [] [] [] []) o (next_proto set next)) rest
    protocol_taken [] a o next rest h ahead = refl
    protocol_taken (iv ∷ set) a o next rest h ahead =
        let is = entry_of 255 iv set (h (λ e. absurd cc)) in
        let name = protocol_name iv.lo in
        let w : Word = plain_word n name in
        let d = at (seen a [] [] [] [] []) o expect.On in
        let off = plain_off name (protocol_bare laws iv.lo) in
        proto_begun (seen a [] [] [] [] []) o next (name ∷ rest) ahead
        ∙ take_bare (asked places.Proto kinds.Protocol d) (settled places.Proto kinds.Protocol (parts.Set (one iv.lo iv.lo)) d) name rest (protocol_bare laws iv.lo)
        (begins places.Proto kinds.Protocol w d (with_part (parts.Set (one iv.lo iv.lo)) (fresh_value kinds.Protocol)) off
        (part_then w (fresh_value kinds.Protocol) (parts.Set (one iv.lo iv.lo)) (protocol_part name) off (protocol_read laws iv.lo is.1)))
        ∙ ap (λ (x : List Iv). whole site n t (at (seen a (item_of (parts.Set x) ∷ []) [] [] [] []) o expect.Hosts) rest) (sym is.0)

    -- Addresses

    -- a plain word of addresses
    host_plain : (word : List ℕ) → is_bare word ≡ true → plain_step (setting site n) (plain_word n word) (fresh_value kinds.Host) kinds.Host ≡ host_word site word (fresh_value kinds.Host)
    host_plain word bare =
        let w : Word = plain_word n word in
        let off = plain_off word bare in
        if_false (is_mark w (codes "<")) _ _ (mark_off w (codes "<") off refl)
        ∙ if_false (is_mark w (codes "(")) _ _ (mark_off w (codes "(") off refl)
        ∙ if_false (is_any_mark w) (Err Syntax) (host_word site word (fresh_value kinds.Host)) off

    -- a word that is read as addresses by itself
    part_read : (place : Place) (word : List ℕ) (part : Part) (d : RuleDraft) (rest : List (List ℕ)) → is_bare word ≡ true → quad_of word ≡ None → host_part site word ≡ Ok part
        → whole site n t (asked place kinds.Host d) (word ∷ rest) ≡ whole site n t (settled place kinds.Host part d) rest
    part_read place word part d rest bare off h =
        let w : Word = plain_word n word in
        let v : ValueDraft = fresh_value kinds.Host in
        take_bare (asked place kinds.Host d) (settled place kinds.Host part d) word rest bare
        (begins place kinds.Host w d (with_part part v) (plain_off word bare)
        (host_plain word bare ∙ ap (λ o. option_map_or (λ addr. taken (value_expecting (values.RangeSign addr) v)) o (part_taken (host_part site word) v)) off ∙ ap (λ r. part_taken r v) h))

    address_begun : (place : Place) (a : ℕ) (d : RuleDraft) (rest : List (List ℕ)) → a < 2 ^ 32
        → whole site n t (asked place kinds.Host d) (dotted a ∷ rest) ≡ whole site n t (at_address place a d) rest
    address_begun place a d rest low =
        let word = dotted a in
        let v : ValueDraft = fresh_value kinds.Host in
        take_bare (asked place kinds.Host d) (at_address place a d) word rest (address_bare laws a)
        (begins place kinds.Host (plain_word n word) d (value_expecting (values.RangeSign a) v) (plain_off word (address_bare laws a))
        (host_plain word (address_bare laws a) ∙ ap (λ o. option_map_or (λ addr. taken (value_expecting (values.RangeSign addr) v)) o (part_taken (host_part site word) v)) (laws.quads.0 a low)))

    -- the last address of a range
    range_ended : (place : Place) (lo hi : ℕ) (d : RuleDraft) (rest : List (List ℕ)) → lo ≤ hi → hi < 2 ^ 32
        → whole site n t (record d { expects = expect.Value place; value = value_expecting (values.RangeEnd lo) (fresh_value kinds.Host) }) (dotted hi ∷ rest)
        ≡ whole site n t (settled place kinds.Host (parts.Set (one lo hi)) d) rest
    range_ended place lo hi d rest order high =
        let v : ValueDraft = value_expecting (values.RangeEnd lo) (fresh_value kinds.Host) in
        let e : RuleDraft = record d { expects = expect.Value place; value = v } in
        take_bare e (settled place kinds.Host (parts.Set (one lo hi)) d) (dotted hi) rest (address_bare laws hi)
        (ap (λ r. and_then (part_taken r v) (λ next. cond next.1 (Ok (value_taken place next.0 e)) (word_step (setting site n) (behind place) (plain_word n (dotted hi)) (valued place next.0 e)))) (range_read laws lo hi order high))

    iv_one : (iv : Iv) → nat_eq iv.lo iv.hi ≡ true → one iv.lo iv.lo ≡ iv ∷ []
    iv_one iv e = ap (λ (hi : ℕ). one iv.lo hi) (eqb-true iv.lo iv.hi e)

    addresses_read : (place : Place) (set : List Iv) (d : RuleDraft) (rest : List (List ℕ)) → ((set ≡ [] → ⊥) → is_range (2 ^ 32 - 1) set ≡ true) → BeginsWell rest
        → whole site n t (asked place kinds.Host d) (addresses_words set ++ rest) ≡ whole site n t (settled place kinds.Host (side_of set) d) rest
    addresses_read place [] d rest h well = part_read place (codes "any") parts.Every d rest refl (no_quad laws (codes "any") refl) refl
    addresses_read place (iv ∷ []) d rest h well =
        let p = and_parts (nat_le iv.lo iv.hi) (nat_le iv.hi (2 ^ 32 - 1)) (h (λ e. absurd cc)) in
        let order : iv.lo ≤ iv.hi = leb-true iv.lo iv.hi p.0 in
        let most : iv.hi ≤ 2 ^ 32 - 1 = leb-true iv.hi (2 ^ 32 - 1) p.1 in
        let high : iv.hi < 2 ^ 32 = omega arith in
        let low : iv.lo < 2 ^ 32 = omega arith in
        elim (cases_Bool (nat_eq iv.lo iv.hi)) [
          | inl e ↦
              (ap (λ (ws : List (List ℕ)). whole site n t (asked place kinds.Host d) (ws ++ rest)) (if_true (nat_eq iv.lo iv.hi) (dotted iv.lo ∷ []) _ e)
              ∙ address_begun place iv.lo d rest low
              ∙ address_left place iv.lo d rest well
              ∙ ap (λ (x : List Iv). whole site n t (settled place kinds.Host (parts.Set x) d) rest) (iv_one iv e))
          | inr e ↦
              (ap (λ (ws : List (List ℕ)). whole site n t (asked place kinds.Host d) (ws ++ rest)) (if_false (nat_eq iv.lo iv.hi) (dotted iv.lo ∷ []) _ e)
              ∙ elim (option_cases (network_len iv)) [
                | inl none ↦
                    (ap (λ o. whole site n t (asked place kinds.Host d) (option_map_or (λ m. net_word iv.lo m ∷ []) o (between_words iv) ++ rest)) none
                    ∙ address_begun place iv.lo d (codes "-" ∷ dotted iv.hi ∷ rest) low
                    ∙ range_ended place iv.lo iv.hi d rest order high)
                | inr found ↦
                    (let is = network_known found.0 iv found.1 in
                    ap (λ o. whole site n t (asked place kinds.Host d) (option_map_or (λ m. net_word iv.lo m ∷ []) o (between_words iv) ++ rest)) found.1
                    ∙ part_read place (net_word iv.lo found.0) (parts.Set (iv ∷ [])) d rest (net_bare laws iv.lo found.0) (net_no_quad laws iv.lo found.0) (net_part laws site found.0 iv low is))
              ])
        ]
    addresses_read place (iv ∷ other ∷ set) d rest h well = never (h (λ e. absurd cc))

    -- Ports

    -- a plain word of ports
    port_plain : (word : List ℕ) → is_bare word ≡ true → operator_named word ≡ None → plain_step (setting site n) (plain_word n word) (fresh_value kinds.Port) kinds.Port ≡ port_word word (fresh_value kinds.Port)
    port_plain word bare off =
        let w : Word = plain_word n word in
        ap (λ o. option_map_or (λ operator. taken (value_expecting (values.Operand operator) (fresh_value kinds.Port))) o (cond (is_any_mark w) (Err Syntax) (port_word word (fresh_value kinds.Port)))) off
        ∙ if_false (is_any_mark w) (Err Syntax) (port_word word (fresh_value kinds.Port)) (plain_off word bare)

    ports_read : (place : Place) (iv : Iv) (set : List Iv) (d : RuleDraft) (rest : List (List ℕ)) → is_range 65535 (iv ∷ set) ≡ true → BeginsWell rest
        → whole site n t (asked place kinds.Port d) (ports_word iv ∷ rest) ≡ whole site n t (settled place kinds.Port (parts.Set (iv ∷ set)) d) rest
    ports_read place iv (other ∷ set) d rest h well = never h
    ports_read place iv [] d rest h well =
        let p = and_parts (nat_le iv.lo iv.hi) (nat_le iv.hi 65535) h in
        let order : iv.lo ≤ iv.hi = leb-true iv.lo iv.hi p.0 in
        let high : iv.hi ≤ 65535 = leb-true iv.hi 65535 p.1 in
        let low : iv.lo ≤ 65535 = omega arith in
        let v : ValueDraft = fresh_value kinds.Port in
        let single = decimal iv.lo in
        let both = decimal iv.lo ++ 58 ∷ decimal iv.hi in
        elim (cases_Bool (nat_eq iv.lo iv.hi)) [
          | inl e ↦
              (let w : Word = plain_word n single in
              let digit = ap begins_with_digit (sym (append-nil single)) ∙ port_begins laws iv.lo [] in
              ap (λ (word : List ℕ). whole site n t (asked place kinds.Port d) (word ∷ rest)) (if_true (nat_eq iv.lo iv.hi) single both e)
              ∙ take_bare (asked place kinds.Port d) (at_port place iv.lo d) single rest (number_bare laws iv.lo)
              (begins place kinds.Port w d (value_expecting (values.PortSign iv.lo) v) (plain_off single (number_bare laws iv.lo))
              (port_plain single (number_bare laws iv.lo) (no_operator single digit)
              ∙ ap (λ o. option_map_or (λ n. taken (value_expecting (values.PortSign n) v)) o (part_taken (port_range_part single) v)) (port_read laws iv.lo low)))
              ∙ port_left place iv.lo d rest well
              ∙ ap (λ (x : List Iv). whole site n t (settled place kinds.Port (parts.Set x) d) rest) (iv_one iv e))
          | inr e ↦
              (let w : Word = plain_word n both in
              let bare : is_bare both ≡ true = ap is_bare (sym (if_false (nat_eq iv.lo iv.hi) single both e)) ∙ ports_bare laws iv in
              ap (λ (word : List ℕ). whole site n t (asked place kinds.Port d) (word ∷ rest)) (if_false (nat_eq iv.lo iv.hi) single both e)
              ∙ take_bare (asked place kinds.Port d) (settled place kinds.Port (parts.Set (iv ∷ [])) d) both rest bare
              (begins place kinds.Port w d (with_part (parts.Set (iv ∷ [])) v) (plain_off both bare)
              (port_plain both bare (no_operator both (port_begins laws iv.lo (58 ∷ decimal iv.hi)))
              ∙ ap (λ o. option_map_or (λ n. taken (value_expecting (values.PortSign n) v)) o (part_taken (port_range_part both) v)) (range_no_port laws iv.lo iv.hi)
              ∙ ap (λ r. part_taken r v) (port_range_read laws iv.lo iv.hi order high))))
        ]

    -- Either side

    from_begun : (s : Seen) (o : Told) (next : Expects) (rest : List (List ℕ)) → AheadOfHosts next
        → whole site n t (at s o next) (codes "from" ∷ rest) ≡ whole site n t (asked places.Source kinds.Host (at s o expect.On)) rest
    from_begun s o _ rest (still at_answer) = refl
    from_begun s o _ rest (still at_way) = refl
    from_begun s o _ rest (still at_log) = refl
    from_begun s o _ rest (still at_past) = refl
    from_begun s o _ rest at_inet = refl
    from_begun s o _ rest at_hosts = refl

    all_taken : (s : Seen) (o : Told) (next : Expects) (rest : List (List ℕ)) → AheadOfHosts next → whole site n t (at s o next) (codes "all" ∷ rest) ≡ whole site n t (at s o expect.Option) rest
    all_taken s o _ rest (still at_answer) = refl
    all_taken s o _ rest (still at_way) = refl
    all_taken s o _ rest (still at_log) = refl
    all_taken s o _ rest (still at_past) = refl
    all_taken s o _ rest at_inet = refl
    all_taken s o _ rest at_hosts = refl

    -- source ports may be left out
    source_ports_read : (set : List Iv) (a b c : List Item) (o : Told) (rest : List (List ℕ)) → ((set ≡ [] → ⊥) → is_range 65535 set ≡ true)
        → whole site n t (at (seen a b c [] [] []) o expect.SourcePorts) (ports_words set ++ codes "to" ∷ rest)
        ≡ whole site n t (asked places.Destination kinds.Host (at (seen a b c (items_of set) [] []) o expect.On)) rest
    source_ports_read [] a b c o rest h = refl
    source_ports_read (iv ∷ set) a b c o rest h = ports_read places.SourcePort iv set (at (seen a b c [] [] []) o expect.On) (codes "to" ∷ rest) (h (λ e. absurd cc)) (goes is_to)

    -- at its end, it makes no difference which ports might follow
    end_same : (verb : Verb) (negated : Bool) (s : Seen) (o : Told)
        → done site n t (draft_at verb negated way s o expect.DestinationPorts) ≡ done site n t (draft_at verb negated way s o expect.Option)
    end_same verbs.Block negated s o = refl
    end_same verbs.Pass negated s o = refl
    end_same verbs.Rdr true s o = refl
    end_same verbs.Rdr false s o = refl
    end_same verbs.Nat true s o = refl
    end_same verbs.Nat false s o = refl

    -- an option that may come once
    then_once : (b : Bool) (x y : RuleDraft) (f : RuleDraft → Result RuleDraft Cause) → f x ≡ f y → and_then (cond b (Err Syntax) (Ok x)) f ≡ and_then (cond b (Err Syntax) (Ok y)) f
    then_once true x y f h = refl
    then_once false x y f h = h

    no_ports : (s : Seen) (o : Told) (rest : List (List ℕ)) → BeginsOption rest → whole site n t (at s o expect.DestinationPorts) rest ≡ whole site n t (at s o expect.Option) rest
    unfolding option_word
    no_ports s o _ no_words = end_same verb negated s o
    no_ports s o _ (begins_so opens_tag) = refl
    no_ports s o _ (begins_so opens_tagged) = refl
    no_ports s o _ (begins_so opens_flags) = refl
    no_ports s o _ (begins_so {words = ws} opens_icmp) =
        ap (λ r. and_then (and_then (cond (is_translation verb) (translation_option_step (word_at n (codes "icmp-type")) (at s o expect.Option)) r) (λ next. read site n next ws)) (done site n t))
        (then_once o.has_icmp_type (record (at s o expect.DestinationPorts) { has_icmp_type = true }) (record (at s o expect.Option) { has_icmp_type = true }) (asking places.IcmpType) refl)
    no_ports s o _ (begins_so opens_keep) = refl
    no_ports s o _ (begins_so opens_arrow) = refl

    destination_ports_read : (set : List Iv) (a b c d e : List Item) (o : Told) (rest : List (List ℕ)) → ((set ≡ [] → ⊥) → is_range 65535 set ≡ true) → BeginsOption rest
        → whole site n t (at (seen a b c d e []) o expect.DestinationPorts) (ports_words set ++ rest) ≡ whole site n t (at (seen a b c d e (items_of set)) o expect.Option) rest
    destination_ports_read [] a b c d e o rest h well = no_ports (seen a b c d e []) o rest well
    destination_ports_read (iv ∷ set) a b c d e o rest h well = ports_read places.DestinationPort iv set (at (seen a b c d e []) o expect.On) rest (h (λ e. absurd cc)) (option_well rest well)

    ports_well : (set : List Iv) (rest : List (List ℕ)) → BeginsWell rest → BeginsWell (ports_words set ++ rest)
    ports_well [] rest h = h
    ports_well (iv ∷ set) rest h = goes is_port

    -- what a condition asks for at a place, if it is printed
    abbrev InRange : ℕ → List Iv → Type 0
    InRange most set = (set ≡ [] → ⊥) → is_range most set ≡ true

    sides_read : (src sp dst dp : List Iv) (a b : List Item) (o : Told) (next : Expects) (rest : List (List ℕ)) → InRange (2 ^ 32 - 1) src → InRange 65535 sp → InRange (2 ^ 32 - 1) dst → InRange 65535 dp
        → AheadOfHosts next → BeginsOption rest
        → whole site n t (at (seen a b [] [] [] []) o next) ((codes "from" ∷ addresses_words src ++ (ports_words sp ++ (codes "to" ∷ addresses_words dst ++ ports_words dp))) ++ rest)
        ≡ whole site n t (at (seen a b (item_of (side_of src) ∷ []) (items_of sp) (item_of (side_of dst) ∷ []) (items_of dp)) o expect.Option) rest
    sides_read src sp dst dp a b o next rest hs hsp hd hdp ahead well =
        let dest = addresses_words dst ++ ports_words dp in
        let ports = ports_words sp ++ (codes "to" ∷ dest) in
        let c = item_of (side_of src) ∷ [] in
        let e = item_of (side_of dst) ∷ [] in
        ap (λ (ws : List (List ℕ)). whole site n t (at (seen a b [] [] [] []) o next) (codes "from" ∷ ws))
        (append_assoc (addresses_words src) ports rest ∙ ap (λ (ws : List (List ℕ)). addresses_words src ++ ws)
        (append_assoc (ports_words sp) (codes "to" ∷ dest) rest ∙ ap (λ (ws : List (List ℕ)). ports_words sp ++ codes "to" ∷ ws) (append_assoc (addresses_words dst) (ports_words dp) rest)))
        ∙ from_begun (seen a b [] [] [] []) o next (addresses_words src ++ (ports_words sp ++ codes "to" ∷ (addresses_words dst ++ (ports_words dp ++ rest)))) ahead
        ∙ addresses_read places.Source src (at (seen a b [] [] [] []) o expect.On) (ports_words sp ++ codes "to" ∷ (addresses_words dst ++ (ports_words dp ++ rest))) hs (ports_well sp _ (goes is_to))
        ∙ source_ports_read sp a b c o (addresses_words dst ++ (ports_words dp ++ rest)) hsp
        ∙ addresses_read places.Destination dst (at (seen a b c (items_of sp) [] []) o expect.On) (ports_words dp ++ rest) hd (ports_well dp rest (option_well rest well))
        ∙ destination_ports_read dp a b c (items_of sp) e o rest hdp well

    hosts_taken : (lits : List Lit) (a b : List Item) (o : Told) (next : Expects) (rest : List (List ℕ)) → InRange (2 ^ 32 - 1) (tested 2 lits) → InRange 65535 (tested 3 lits) → InRange (2 ^ 32 - 1) (tested 4 lits)
        → InRange 65535 (tested 5 lits) → AheadOfHosts next → BeginsOption rest
        → whole site n t (at (seen a b [] [] [] []) o next) (hosts_words lits ++ rest)
        ≡ whole site n t (at (seen a b (side_items (tests_hosts lits) (tested 2 lits)) (items_of (tested 3 lits)) (side_items (tests_hosts lits) (tested 4 lits)) (items_of (tested 5 lits))) o expect.Option) rest
    hosts_taken lits a b o next rest hs hsp hd hdp ahead well =
        let sp = tested 3 lits in
        let dp = tested 5 lits in
        elim (cases_Bool (tests_hosts lits)) [
          | inl e ↦
              (ap (λ (x : Bool). whole site n t (at (seen a b [] [] [] []) o next) (cond x (sides_words lits) (codes "all" ∷ []) ++ rest)) e
              ∙ sides_read (tested 2 lits) sp (tested 4 lits) dp a b o next rest hs hsp hd hdp ahead well
              ∙ ap (λ (x : Bool). whole site n t (at (seen a b (side_items x (tested 2 lits)) (items_of sp) (side_items x (tested 4 lits)) (items_of dp)) o expect.Option) rest) (sym e))
          | inr e ↦
              (ap (λ (x : Bool). whole site n t (at (seen a b [] [] [] []) o next) (cond x (sides_words lits) (codes "all" ∷ []) ++ rest)) e
              ∙ all_taken (seen a b [] [] [] []) o next rest ahead
              ∙ ap₂ (λ (x y : List Iv). whole site n t (at (seen a b [] (items_of x) [] (items_of y)) o expect.Option) rest) (sym (none_tested 3 lits refl e)) (sym (none_tested 5 lits refl e))
              ∙ ap (λ (x : Bool). whole site n t (at (seen a b (side_items x (tested 2 lits)) (items_of sp) (side_items x (tested 4 lits)) (items_of dp)) o expect.Option) rest) (sym e))
        ]

    -- all that stands ahead of options
    pub front_read : (lits : List Lit) (o : Told) (next : Expects) (rest : List (List ℕ)) → ((tested 0 lits ≡ [] → ⊥) → is_interface site (tested 0 lits) ≡ true)
        → ((tested 1 lits ≡ [] → ⊥) → is_number 255 (tested 1 lits) ≡ true) → InRange (2 ^ 32 - 1) (tested 2 lits) → InRange 65535 (tested 3 lits) → InRange (2 ^ 32 - 1) (tested 4 lits)
        → InRange 65535 (tested 5 lits) → AheadOfOn next → BeginsOption rest
        → whole site n t (at (seen [] [] [] [] [] []) o next) (front_words site lits ++ rest) ≡ whole site n t (at (seen_at lits) o expect.Option) rest
    front_read lits o next rest via proto hs hsp hd hdp ahead well =
        let on = interface_words site (tested 0 lits) in
        let protocol = protocol_words (tested 1 lits) in
        let hosts = hosts_words lits in
        let next1 = next_on (tested 0 lits) next in
        let ahead1 = behind_on (tested 0 lits) next ahead in
        ap (whole site n t (at (seen [] [] [] [] [] []) o next)) (append_assoc on (protocol ++ hosts) rest ∙ ap (λ (ws : List (List ℕ)). on ++ ws) (append_assoc protocol hosts rest))
        ∙ interface_read (tested 0 lits) o next (protocol ++ (hosts ++ rest)) via ahead
        ∙ protocol_taken (tested 1 lits) (items_of (tested 0 lits)) o next1 (hosts ++ rest) proto ahead1
        ∙ hosts_taken lits (items_of (tested 0 lits)) (items_of (tested 1 lits)) o (next_proto (tested 1 lits) next1) rest hs hsp hd hdp (behind_proto (tested 1 lits) next1 ahead1) well
