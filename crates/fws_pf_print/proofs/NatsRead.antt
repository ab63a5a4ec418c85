-- The words of a translation are read as that translation.
use Rattle.std.proofs.Common.{◌≡◌, ℕ, ◌^◌, ◌<◌, ◌≤◌, ◌⊎◌, Bool, true, false, ◌&&◌, ◌||◌, not, nat_eq, nat_le, nat_lt, Option, Some, None, Ok, List, [], ◌∷◌, ◌++◌, length, codes, refl, ap, ap₂, sym, ◌∙◌, subst, inl, inr, arith}
use Rattle.std.proofs.lemmas.Bool.{and_from, and_parts, and_right, or_from, or_parts, cases_Bool, eq-eqb, eqb-false, ltb-true}
use Rattle.std.specs.List.{list_all}
use Rattle.std.specs.Option.{option_map_or}
use Rattle.fws_iv.specs.declared.iv.Iv.{Iv}
use Rattle.fws_iv.specs.Prefixes.{agree}
use Rattle.fws_net.specs.declared.condition.Lit.{Lit}
use Rattle.fws_net.specs.declared.condition.Test.TheVariants.{Icmp, Flags}
use Rattle.fws_net.specs.declared.outcome.End.{End}
use Rattle.fws_net.specs.declared.site.Site.{Site}
use Rattle.fws_net.specs.SiteLaws.{IsOrderly}
use Rattle.fws_rules.specs.Literals.{one}
use Rattle.fws_pf.specs.declared.config.PfConfig.{PfConfig}
use Rattle.fws_pf.specs.declared.config.PfNat.{PfNat}
use Rattle.fws_pf.specs.declared.config.Way.TheVariants as ways
use Rattle.fws_pf.specs.declared.rule_draft.Choice.{Choice}
use Rattle.fws_pf.specs.declared.rule_draft.Expects.{Expects}
use Rattle.fws_pf.specs.declared.rule_draft.Expects.TheVariants as expect
use Rattle.fws_pf.specs.declared.rule_draft.Target.{Target}
use Rattle.fws_pf.specs.declared.rule_draft.Verb.{Verb}
use Rattle.fws_pf.specs.declared.rule_draft.Verb.TheVariants as verbs
use Rattle.fws_pf.specs.declared.text_draft.PfDraft.{PfDraft}
use Rattle.fws_pf.specs.Drawn.{has_protocols, is_port_protocol, maps_blocks, target_end}
use Rattle.fws_pf.specs.FileText.{rule_put}
use Rattle.fws_pf_print.specs.Printable.{behind_cond, behind_put, is_block, is_printed_end, is_printed_port, is_translation_test, place_written, protocol_tested, tested}
use Rattle.fws_pf_print.specs.PrintedText.{end_words, front_words, option_words, options_words, static_words, tag_words, target_words, tests_hosts}
use Rattle.fws_pf_print.proofs.Basics.{if_true, if_false, never}
use Rattle.fws_pf_print.proofs.Conds.{AreSingle, IsDivided}
use Rattle.fws_pf_print.proofs.Drafts.{at_past, begins_so, BeginsOption, done, draft_at, front_read, items_of, no_words, nothing_told, opens_arrow, seen, seen_at, side_items, Told, whole}
use Rattle.fws_pf_print.proofs.Laws.{Laws}
use Rattle.fws_pf_print.proofs.OptionsRead.{AheadOfArrow, AreKnown, arrow, behind_put_tag, hides, IsTranslation, option, redirects, tag_known, tagged, told_tag, told_tagged, translation_tag_taken, translation_tagged_taken}
use Rattle.fws_pf_print.proofs.RulesRead.{begins_tag, begins_tagged, draft_single, made, opts, options_single, protocols_there, tag_choices, text_at, told}
use Rattle.fws_pf_print.proofs.Shapes.{flags_lits, none_tested, tag_lits, tag_texts, type_lits}
use Rattle.fws_pf_print.proofs.TagNames.{names}
use Rattle.fws_pf_print.proofs.TargetsRead.{IsLast, over, redirect_read, source_read, targeted}

-- What is told

tag_told : (k : Option ℕ) (known next : ℕ) → behind_put k known ≡ Some next → told_tag false k next (nothing_told (names known)) ≡ told [] false false false false false false k None next
tag_told None known next h = (let same : known ≡ next = cc in ap (λ (m : ℕ). told [] false false false false false false None None m) same)
tag_told (Some k) known next h = refl

tagged_told : (k tag : Option ℕ) (known next : ℕ) → behind_put k known ≡ Some next
    → told_tagged false k next (told [] false false false false false false tag None known) ≡ told (tag_choices k) false false false false false false tag None next
tagged_told None tag known next h = (let same : known ≡ next = cc in ap (λ (m : ℕ). told [] false false false false false false tag None m) same)
tagged_told (Some k) tag known next h = refl

-- Blocks

blocks_there : (b : Bool) (set : List Iv) (m : ℕ) → is_block m set ≡ true → (b ≡ false → set ≡ []) → maps_blocks [] m (side_items b set) ≡ true
blocks_there b [] m h k = never h
blocks_there true (iv ∷ []) m h k = (let own : agree m iv.lo iv.lo ≡ true = eq-eqb _ _ refl in and_from (true && (agree m iv.lo iv.lo && agree m iv.lo iv.hi && true)) true (and_from (agree m iv.lo iv.lo && agree m iv.lo iv.hi) true (and_from (agree m iv.lo iv.lo) (agree m iv.lo iv.hi) own h) refl) refl)
blocks_there false (iv ∷ []) m h k = absurd (let same = k refl in cc)
blocks_there b (iv ∷ other ∷ set) m h k = never h

-- the configuration with a translation more
abbrev pub with_nat : Verb → PfNat → ℕ → PfConfig → PfConfig
with_nat verbs.Rdr nat known c = record c { rdr = c.rdr ++ nat ∷ []; tags = names known }
with_nat _ nat known c = record c { nat = c.nat ++ nat ∷ []; tags = names known }

abbrev pub writes_dst : Verb → Bool
writes_dst verbs.Rdr = true
writes_dst _ = false

module _ (laws : Laws) (site : Site) (orderly : IsOrderly site) (n : ℕ) (c : PfConfig) (verb : Verb) (kind : IsTranslation verb) (lits : List Lit) (is : IsDivided site lits)
    (narrow : list_all (λ lit. is_translation_test lit.test) lits ≡ true) (tag : Option ℕ) (known middle last : ℕ) (few : known ≤ 2 ^ 32) (puts : behind_put tag known ≡ Some middle)
    (asks : behind_cond lits middle ≡ Some last) where
  abbrev t : PfDraft
  t = text_at c

  abbrev cs : List Choice
  cs = tag_choices is.options.tag

  abbrev last_told : Option Target → Told
  last_told target = told cs false false false false false false tag target last

  narrowed : AreSingle cs (opts site lits is)
  narrowed =
      let none = is.options.narrow (is.narrow narrow) in
      subst (λ f. AreSingle cs (flags_lits f ++ (type_lits is.options.type ++ tag_lits is.options.tag))) (sym none.0)
      (subst (λ i. AreSingle cs (type_lits i ++ tag_lits is.options.tag)) (sym none.1) (options_single None None is.options.tag))

  words_same : options_words lits ≡ tag_texts is.options.tag
  words_same =
      let none = is.options.narrow (is.narrow narrow) in
      is.words ∙ is.options.words ∙ ap₂ (λ f i. option_map_or (λ (f : ℕ × ℕ). option_words (Flags f.0 f.1)) f [] ++ (option_map_or (λ k. option_words (Icmp (one k k))) i [] ++ tag_texts is.options.tag)) none.0 none.1

  begins_target : (to : Option End) → BeginsOption (target_words (writes_dst verb) to)
  begins_target None = no_words
  begins_target (Some e) = begins_so opens_arrow

  -- all words ahead of what is written
  record IsFront (negated : Bool) (rest : List (List ℕ)) : Type 0 where
    then : Expects
    ahead : AheadOfArrow then
    read : whole site n t (draft_at verb negated ways.Both (seen [] [] [] [] [] []) (nothing_told (names known)) expect.Past) (front_words site lits ++ (tag_words tag ++ (options_words lits ++ rest)))
        ≡ whole site n t (draft_at verb negated ways.Both (seen_at lits) (last_told None) then) rest

  front_taken : (negated : Bool) (rest : List (List ℕ)) → BeginsOption rest → IsFront negated rest
  front_taken negated rest begins =
      let s = seen_at lits in
      let k = is.options.tag in
      let o0 : Told = nothing_told (names known) in
      let o1 : Told = told [] false false false false false false tag None middle in
      let asked : behind_put k middle ≡ Some last = sym (is.tags middle ∙ is.options.tags middle) ∙ asks in
      let known0 : AreKnown laws site n t negated ways.Both s o0 known = record { tags = refl; few = few } in
      let known1 : AreKnown laws site n t negated ways.Both s o1 middle = record { tags = refl; few = (tag_known laws site n t negated ways.Both s false tag o0 known middle known0 puts).few } in
      let now = option_map_or (λ k. expect.Tagged) tag expect.Option in
      let next = translation_tagged_taken laws site n t negated ways.Both s k verb o1 middle last now rest kind known1 asked (behind_put_tag laws site n t negated ways.Both s tag) in
      record {
        then = next.then;
        ahead = next.ahead;
        read = ap (λ (ws : List (List ℕ)). whole site n t (draft_at verb negated ways.Both (seen [] [] [] [] [] []) o0 expect.Past) (front_words site lits ++ (tag_words tag ++ (ws ++ rest)))) words_same
            ∙ front_read site n t laws orderly verb negated ways.Both lits o0 expect.Past (tag_words tag ++ (tag_texts k ++ rest)) is.via is.proto is.src
            (λ h. (and_parts (is_port_protocol (protocol_tested lits)) _ (is.sport h)).1) is.dst (λ h. (and_parts (is_port_protocol (protocol_tested lits)) _ (is.dport h)).1) at_past (begins_tag tag _ (begins_tagged k _ begins))
            ∙ translation_tag_taken laws site n t negated ways.Both s tag verb o0 known middle (tag_texts k ++ rest) kind known0 puts
            ∙ ap (λ o. whole site n t (draft_at verb negated ways.Both s o now) (tag_texts k ++ rest)) (tag_told tag known middle puts)
            ∙ next.read
            ∙ ap (λ o. whole site n t (draft_at verb negated ways.Both s o next.then) rest) (tagged_told k tag middle last asked);
      }

  -- Translations that write nothing

  no_end : (verb : Verb) → IsTranslation verb → (next : Expects) → AheadOfArrow next
      → done site n t (draft_at verb true ways.Both (seen_at lits) (last_told None) next) ≡ rule_put [] (draft_at verb true ways.Both (seen_at lits) (last_told None) next) t
  no_end _ redirects _ option = refl
  no_end _ redirects _ tagged = refl
  no_end _ redirects _ arrow = refl
  no_end _ hides _ option = refl
  no_end _ hides _ tagged = refl
  no_end _ hides _ arrow = refl

  ports_fit : (b : Bool) → (b ≡ true → is_port_protocol (protocol_tested lits) ≡ true)
      → ((nat_le 1 (length (items_of (tested 3 lits))) || nat_le 1 (length (items_of (tested 5 lits))) || b) && not (has_protocols is_port_protocol (items_of (tested 1 lits)))) ≡ false
  ports_fit b h = (or_parts _ _ (or_parts _ _ (protocols_there site lits is b h)).0).0

  fitting : (b : Bool) → (b ≡ true → is_port_protocol (protocol_tested lits) ≡ true)
      → ((nat_le 1 (length (items_of (tested 3 lits))) || nat_le 1 (length (items_of (tested 5 lits))) || b) && not (has_protocols is_port_protocol (items_of (tested 1 lits)))
      || false && not (has_protocols (nat_eq 6) (items_of (tested 1 lits))) || false && not (has_protocols (nat_eq 1) (items_of (tested 1 lits)))) ≡ false
  fitting b h = or_from _ false (or_from _ false (ports_fit b h) refl) refl

  no_done : (verb : Verb) → IsTranslation verb → (next : Expects) → AheadOfArrow next
      → done site n t (draft_at verb true ways.Both (seen_at lits) (last_told None) next) ≡ Ok (text_at (with_nat verb (record { cond = lits; to = None; past = false; tag = tag }) last c))
  no_done _ redirects next ahead =
      no_end verbs.Rdr redirects next ahead ∙ made site n c (draft_at verbs.Rdr true ways.Both (seen_at lits) (last_told None) next) lits (draft_single site lits is cs narrowed) refl (fitting false never)
  no_done _ hides next ahead =
      no_end verbs.Nat hides next ahead ∙ made site n c (draft_at verbs.Nat true ways.Both (seen_at lits) (last_told None) next) lits (draft_single site lits is cs narrowed) refl (fitting false never)

  pub no_read : whole site n t (draft_at verb true ways.Both (seen [] [] [] [] [] []) (nothing_told (names known)) expect.Past)
      (front_words site lits ++ (tag_words tag ++ (options_words lits ++ target_words (writes_dst verb) None)))
      ≡ Ok (text_at (with_nat verb (record { cond = lits; to = None; past = false; tag = tag }) last c))
  no_read = (let front = front_taken true [] no_words in front.read ∙ no_done verb kind front.then front.ahead)

  -- Translations that write

  arrow_taken : (verb : Verb) → IsTranslation verb → (next : Expects) → AheadOfArrow next → (rest : List (List ℕ))
      → whole site n t (draft_at verb false ways.Both (seen_at lits) (last_told None) next) (codes "->" ∷ rest) ≡ whole site n t (draft_at verb false ways.Both (seen_at lits) (last_told None) expect.Target) rest
  arrow_taken _ redirects _ option rest = refl
  arrow_taken _ redirects _ tagged rest = refl
  arrow_taken _ redirects _ arrow rest = refl
  arrow_taken _ hides _ option rest = refl
  arrow_taken _ hides _ tagged rest = refl
  arrow_taken _ hides _ arrow rest = refl

  written_end : (verb : Verb) → IsTranslation verb → (target : Target) (next : Expects) → IsLast next
      → done site n t (draft_at verb false ways.Both (seen_at lits) (last_told (Some target)) next) ≡ rule_put [] (draft_at verb false ways.Both (seen_at lits) (last_told (Some target)) next) t
  written_end _ redirects target _ targeted = refl
  written_end _ redirects target _ over = refl
  written_end _ hides target _ targeted = refl
  written_end _ hides target _ over = refl

  -- the port of an end is there only where the protocol has ports
  port_fits : (b : Bool) (p : Option ℕ) → is_printed_port b lits p ≡ true → option_map_or (λ (port : ℕ). true) p false ≡ true → is_port_protocol (protocol_tested lits) ≡ true
  port_fits b None h k = never k
  port_fits b (Some p) h k = (and_parts (b && nat_le p 65535) (is_port_protocol (protocol_tested lits)) h).1

  port_low : (p : Option ℕ) → is_printed_port true lits p ≡ true → option_map_or (λ p. nat_le p 65535) p true ≡ true
  port_low None h = refl
  port_low (Some p) h = (and_parts true (nat_le p 65535) (and_parts (true && nat_le p 65535) (is_port_protocol (protocol_tested lits)) h).0).1

  no_port : (p : Option ℕ) → is_printed_port false lits p ≡ true → p ≡ None
  no_port None h = refl
  no_port (Some p) h = never h

  -- what is known of a printed end
  record IsEndKnown (b : Bool) (e : End) : Type 0 where
    low : e.addr < 2 ^ 32
    host : nat_eq e.len 32 ≡ true → is_printed_port b lits e.port ≡ true
    block : nat_eq e.len 32 ≡ false → is_block e.len (tested (place_written b) lits) ≡ true

  end_known : (b : Bool) (e : End) → is_printed_end b lits e ≡ true → IsEndKnown b e
  end_known b e h =
      let p = and_parts (nat_lt e.addr (2 ^ 32)) _ h in
      record {
        low = ltb-true e.addr (2 ^ 32) p.0;
        host = λ same. sym (if_true (nat_eq e.len 32) (is_printed_port b lits e.port) (is_block e.len (tested (place_written b) lits)) same) ∙ p.1;
        block = λ other. sym (if_false (nat_eq e.len 32) (is_printed_port b lits e.port) (is_block e.len (tested (place_written b) lits)) other) ∙ p.1;
      }

  port_there : (b : Bool) (e : End) → IsEndKnown b e → option_map_or (λ (port : ℕ). true) e.port false ≡ true → is_port_protocol (protocol_tested lits) ≡ true
  port_there b e known k = elim (cases_Bool (nat_eq e.len 32)) [
    | inl same ↦ port_fits b e.port (known.host same) k
    | inr other ↦ (let short = eqb-false e.len 32 other in let none : e.port ≡ None = e.port_on_whole (omega (arith, e.len_high, short)) in never (ap (λ (p : Option ℕ). option_map_or (λ (port : ℕ). true) p false) (sym none) ∙ k))
  ]

  mapped_fits : (b : Bool) (e : End) (target : Target) (set : List Iv) → IsEndKnown b e → set ≡ tested (place_written b) lits → (tests_hosts lits ≡ false → set ≡ [])
      → (target.is_mapped ≡ false) ⊎ ((nat_eq e.len 32 ≡ false) × (target.net.len ≡ e.len)) → (target.is_mapped && not (maps_blocks [] target.net.len (side_items (tests_hosts lits) set))) ≡ false
  mapped_fits b e target set known same none fits = elim fits [
    | inl off ↦ ap (λ m. m && not (maps_blocks [] target.net.len (side_items (tests_hosts lits) set))) off
    | inr on ↦
        (ap (λ m. target.is_mapped && not m) (ap (λ m. maps_blocks [] m (side_items (tests_hosts lits) set)) on.1 ∙ blocks_there (tests_hosts lits) set e.len (ap (is_block e.len) same ∙ known.block on.0) none)
        ∙ and_right target.is_mapped false refl)
  ]

  redirect_done : (e : End) → IsEndKnown true e → (target : Target) (next : Expects) → IsLast next → target_end target ≡ e → target.port ≡ e.port → (target.is_mapped ≡ false) ⊎ ((nat_eq e.len 32 ≡ false) × (target.net.len ≡ e.len))
      → done site n t (draft_at verbs.Rdr false ways.Both (seen_at lits) (last_told (Some target)) next) ≡ Ok (text_at (with_nat verbs.Rdr (record { cond = lits; to = Some e; past = false; tag = tag }) last c))
  redirect_done e known target next ends end port fits =
      written_end verbs.Rdr redirects target next ends
      ∙ made site n c (draft_at verbs.Rdr false ways.Both (seen_at lits) (last_told (Some target)) next) lits (draft_single site lits is cs narrowed)
      (mapped_fits true e target (tested 4 lits) known refl (none_tested 4 lits refl) fits)
      (fitting (option_map_or (λ (port : ℕ). true) target.port false) (λ k. port_there true e known (ap (λ (p : Option ℕ). option_map_or (λ (port : ℕ). true) p false) (sym port) ∙ k)))
      ∙ ap (λ (x : End). Ok (text_at (with_nat verbs.Rdr (record { cond = lits; to = Some x; past = false; tag = tag }) last c))) end

  source_done : (e : End) → IsEndKnown false e → (target : Target) (next : Expects) → IsLast next → target_end target ≡ e → target.port ≡ e.port → (target.is_mapped ≡ false) ⊎ ((nat_eq e.len 32 ≡ false) × (target.net.len ≡ e.len))
      → done site n t (draft_at verbs.Nat false ways.Both (seen_at lits) (last_told (Some target)) next) ≡ Ok (text_at (with_nat verbs.Nat (record { cond = lits; to = Some e; past = false; tag = tag }) last c))
  source_done e known target next ends end port fits =
      written_end verbs.Nat hides target next ends
      ∙ made site n c (draft_at verbs.Nat false ways.Both (seen_at lits) (last_told (Some target)) next) lits (draft_single site lits is cs narrowed)
      (mapped_fits false e target (tested 2 lits) known refl (none_tested 2 lits refl) fits)
      (fitting (option_map_or (λ (port : ℕ). true) target.port false) (λ k. port_there false e known (ap (λ (p : Option ℕ). option_map_or (λ (port : ℕ). true) p false) (sym port) ∙ k)))
      ∙ ap (λ (x : End). Ok (text_at (with_nat verbs.Nat (record { cond = lits; to = Some x; past = false; tag = tag }) last c))) end

  pub written_read : (e : End) → is_printed_end (writes_dst verb) lits e ≡ true
      → whole site n t (draft_at verb false ways.Both (seen [] [] [] [] [] []) (nothing_told (names known)) expect.Past)
      (front_words site lits ++ (tag_words tag ++ (options_words lits ++ target_words (writes_dst verb) (Some e))))
      ≡ Ok (text_at (with_nat verb (record { cond = lits; to = Some e; past = false; tag = tag }) last c))
  written_read e h =
      let front = front_taken false (codes "->" ∷ end_words e ++ static_words (writes_dst verb)) (begins_so opens_arrow) in
      front.read ∙ arrow_taken verb kind front.then front.ahead (end_words e ++ static_words (writes_dst verb)) ∙ behind verb kind h
    where
      behind : (verb : Verb) → IsTranslation verb → is_printed_end (writes_dst verb) lits e ≡ true
          → whole site n t (draft_at verb false ways.Both (seen_at lits) (last_told None) expect.Target) (end_words e ++ static_words (writes_dst verb))
          ≡ Ok (text_at (with_nat verb (record { cond = lits; to = Some e; past = false; tag = tag }) last c))
      behind _ redirects h =
          let known = end_known true e h in
          let it = redirect_read laws site n t ways.Both (seen_at lits) e (last_told None) known.low (λ same. port_low e.port (known.host same)) in
          it.read ∙ redirect_done e known it.target it.next it.last it.end it.port it.fits
      behind _ hides h =
          let known = end_known false e h in
          let it = source_read laws site n t ways.Both (seen_at lits) e (last_told None) known.low (λ same. no_port e.port (known.host same)) in
          it.read ∙ source_done e known it.target it.next it.last it.end it.port it.fits
