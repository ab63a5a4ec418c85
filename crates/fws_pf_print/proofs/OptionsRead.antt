-- The options of a rule, and what a translation writes, are read word by word.
use Rattle.std.proofs.Common.{◌≡◌, ℕ, ◌^◌, ◌≤◌, Bool, true, false, cond, nat_eq, nat_le, Option, Some, None, IfSome, Result, Ok, Err, List, [], ◌∷◌, ◌++◌, codes, decimal, refl, ap, ap₂, ◌∙◌, arith}
use Rattle.std.proofs.lemmas.Bool.{and_parts, leb-true}
use Rattle.std.specs.Option.{option_map_or}
use Rattle.std.specs.Str.{bytes_eq}
use Rattle.fws_num.specs.declared.word.Word.{Word}
use Rattle.fws_num.specs.Words.{plain_word}
use Rattle.fws_net.specs.declared.cause.Cause.{Cause}
use Rattle.fws_net.specs.declared.cause.Cause.TheVariants.{Syntax}
use Rattle.fws_net.specs.declared.condition.Test.TheVariants.{Icmp, Flags, Tag}
use Rattle.fws_net.specs.declared.site.Site.{Site}
use Rattle.fws_net.specs.Reading.{and_then}
use Rattle.fws_rules.specs.Literals.{one, positive}
use Rattle.fws_pf.specs.declared.config.Way.{Way}
use Rattle.fws_pf.specs.declared.rule_draft.Expects.{Expects}
use Rattle.fws_pf.specs.declared.rule_draft.Expects.TheVariants as expect
use Rattle.fws_pf.specs.declared.rule_draft.Place.TheVariants as places
use Rattle.fws_pf.specs.declared.rule_draft.RuleDraft.{RuleDraft}
use Rattle.fws_pf.specs.declared.rule_draft.Verb.{Verb}
use Rattle.fws_pf.specs.declared.rule_draft.Verb.TheVariants as verbs
use Rattle.fws_pf.specs.declared.text_draft.PfDraft.{PfDraft}
use Rattle.fws_pf.specs.declared.value_draft.Part.TheVariants as parts
use Rattle.fws_pf.specs.declared.value_draft.ValueKind.TheVariants as kinds
use Rattle.fws_pf.specs.Keywords.{option_word}
use Rattle.fws_pf.specs.RuleText.{behind_tag as expects_behind_tag, behind_tagged, flags_test, only, place_of as place_among, with_flags_test, with_name}
use Rattle.fws_pf.specs.Values.{fresh_value, icmp_type_part, is_any_mark, with_part}
use Rattle.fws_print.specs.Sets.{are_flags, is_number}
use Rattle.fws_pf_print.specs.Printable.{behind_put, behind_tag, tag_name}
use Rattle.fws_pf_print.specs.PrintedText.{flags_word, tag_words}
use Rattle.fws_pf_print.proofs.Basics.{if_false}
use Rattle.fws_pf_print.proofs.Drafts.{asked, begins, draft_at, Seen, settled, take, take_bare, Told, whole, part_then, plain_off}
use Rattle.fws_pf_print.proofs.Laws.{Laws}
use Rattle.fws_pf_print.proofs.Shapes.{flags_texts, tag_texts, type_texts}
use Rattle.fws_pf_print.proofs.TagNames.{names, tag_read}
use Rattle.fws_pf_print.proofs.ValuesRead.{flags_read, number_bare, tag_bare, type_read}

-- What is told by options

abbrev pub told_flags : Option (ℕ × ℕ) → Told → Told
told_flags None o = o
told_flags (Some f) o = record o { options = o.options ++ only (positive (Flags f.0 f.1) ∷ []) ∷ []; has_flags = true; tests_flags = true }

abbrev pub told_type : Option ℕ → Told → Told
told_type None o = o
told_type (Some k) o = record o { options = o.options ++ only (positive (Icmp (one k k)) ∷ []) ∷ []; has_icmp_type = true }

-- the tags that are known behind it are told too
abbrev pub told_tagged : Bool → Option ℕ → ℕ → Told → Told
told_tagged once None known o = o
told_tagged once (Some k) known o = record o { options = o.options ++ only (positive (Tag k) ∷ []) ∷ []; has_tagged = once; tags = names known }

abbrev pub told_tag : Bool → Option ℕ → ℕ → Told → Told
told_tag once None known o = o
told_tag once (Some k) known o = record o { tag = Some k; has_tag = once; tags = names known }

-- a filter rule
pub data IsFilter : Verb → Type 0 where
  blocks : IsFilter verbs.Block
  passes : IsFilter verbs.Pass

pub data IsTranslation : Verb → Type 0 where
  redirects : IsTranslation verbs.Rdr
  hides : IsTranslation verbs.Nat

-- where a translation may have come to
pub data AheadOfArrow : Expects → Type 0 where
  option : AheadOfArrow expect.Option
  tagged : AheadOfArrow expect.Tagged
  arrow : AheadOfArrow expect.Arrow

module _ (laws : Laws) (site : Site) (n : ℕ) (t : PfDraft) (negated : Bool) (way : Way) (s : Seen) where
  abbrev at : Verb → Told → Expects → RuleDraft
  at verb o next = draft_at verb negated way s o next

  -- Flags and types

  flags_begun : (verb : Verb) (o : Told) (rest : List (List ℕ)) → IsFilter verb → o.has_flags ≡ false
      → whole site n t (at verb o expect.Option) (codes "flags" ∷ rest) ≡ whole site n t (at verb (record o { has_flags = true }) expect.Flags) rest
  unfolding option_word
  flags_begun _ o rest blocks h = take site n t (at verbs.Block o expect.Option) (at verbs.Block (record o { has_flags = true }) expect.Flags) (codes "flags") rest (if_false o.has_flags (Err Syntax) (Ok (at verbs.Block (record o { has_flags = true }) expect.Flags)) h)
  flags_begun _ o rest passes h = take site n t (at verbs.Pass o expect.Option) (at verbs.Pass (record o { has_flags = true }) expect.Flags) (codes "flags") rest (if_false o.has_flags (Err Syntax) (Ok (at verbs.Pass (record o { has_flags = true }) expect.Flags)) h)

  pub flags_taken : (f : Option (ℕ × ℕ)) (verb : Verb) (o : Told) (rest : List (List ℕ)) → IsFilter verb → IfSome f (λ f. are_flags f.0 f.1 ≡ true) → o.has_flags ≡ false
      → whole site n t (at verb o expect.Option) (flags_texts f ++ rest) ≡ whole site n t (at verb (told_flags f o) expect.Option) rest
  flags_taken None verb o rest filter h k = refl
  flags_taken (Some f) verb o rest filter h k =
      let is = flags_read f.0 f.1 h in
      let word = flags_word f.0 f.1 in
      let d = at verb (record o { has_flags = true }) expect.Flags in
      flags_begun verb o (word ∷ rest) filter k
      ∙ take_bare site n t d (with_flags_test (Flags f.0 f.1) d) word rest is.word
      (if_false (bytes_eq word (codes "any")) _ (and_then (flags_test word) (λ test. Ok (with_flags_test test d))) is.other ∙ ap (λ r. and_then r (λ test. Ok (with_flags_test test d))) is.test)

  type_begun : (verb : Verb) (o : Told) (rest : List (List ℕ)) → IsFilter verb → o.has_icmp_type ≡ false
      → whole site n t (at verb o expect.Option) (codes "icmp-type" ∷ rest) ≡ whole site n t (asked places.IcmpType kinds.IcmpType (at verb (record o { has_icmp_type = true }) expect.Option)) rest
  unfolding option_word
  type_begun _ o rest blocks h =
      take site n t (at verbs.Block o expect.Option) (asked places.IcmpType kinds.IcmpType (at verbs.Block (record o { has_icmp_type = true }) expect.Option)) (codes "icmp-type") rest
      (ap (λ b. and_then (cond b (Err Syntax) (Ok (at verbs.Block (record o { has_icmp_type = true }) expect.Option))) (λ d. Ok (asked places.IcmpType kinds.IcmpType d))) h)
  type_begun _ o rest passes h =
      take site n t (at verbs.Pass o expect.Option) (asked places.IcmpType kinds.IcmpType (at verbs.Pass (record o { has_icmp_type = true }) expect.Option)) (codes "icmp-type") rest
      (ap (λ b. and_then (cond b (Err Syntax) (Ok (at verbs.Pass (record o { has_icmp_type = true }) expect.Option))) (λ d. Ok (asked places.IcmpType kinds.IcmpType d))) h)

  pub type_taken : (i : Option ℕ) (verb : Verb) (o : Told) (rest : List (List ℕ)) → IsFilter verb → IfSome i (λ k. is_number 255 (one k k) ≡ true) → o.has_icmp_type ≡ false
      → whole site n t (at verb o expect.Option) (type_texts i ++ rest) ≡ whole site n t (at verb (told_type i o) expect.Option) rest
  type_taken None verb o rest filter h k = refl
  type_taken (Some i) verb o rest filter h k =
      let most : i ≤ 255 = leb-true i 255 (and_parts (nat_eq i i) (nat_le i 255) h).1 in
      let word = decimal i in
      let w : Word = plain_word n word in
      let d = at verb (record o { has_icmp_type = true }) expect.Option in
      let off = plain_off site n t word (number_bare laws i) in
      type_begun verb o (word ∷ rest) filter k
      ∙ take_bare site n t (asked places.IcmpType kinds.IcmpType d) (settled places.IcmpType kinds.IcmpType (parts.Set (one i i)) d) word rest (number_bare laws i)
      (begins site n t places.IcmpType kinds.IcmpType w d (with_part (parts.Set (one i i)) (fresh_value kinds.IcmpType)) off
      (part_then site n t w (fresh_value kinds.IcmpType) (parts.Set (one i i)) (icmp_type_part word) off (type_read laws i most)))

  -- Tags

  -- the name of a tag that is asked for
  asked_name : (verb : Verb) (o : Told) (k known next : ℕ) (rest : List (List ℕ)) → o.tags ≡ names known → known ≤ 2 ^ 32 → behind_tag k known ≡ Some next
      → whole site n t (at verb o (expect.TaggedName true)) (tag_name k ∷ rest) ≡ whole site n t (at verb (record o { options = o.options ++ only (positive (Tag k) ∷ []) ∷ []; tags = names next }) (behind_tagged verb)) rest
  asked_name verb o k known next rest e few h =
      let is = tag_read k known next few h in
      let word = tag_name k in
      let d = at verb o (expect.TaggedName true) in
      take_bare site n t d (at verb (record o { options = o.options ++ only (positive (Tag k) ∷ []) ∷ []; tags = names next }) (behind_tagged verb)) word rest (tag_bare laws k)
      (if_false (is_any_mark (plain_word n word)) (Err Syntax) _ (plain_off site n t word (tag_bare laws k))
      ∙ ap₂ (λ (m : ℕ) (l : List (List ℕ)). let r : Result RuleDraft Cause = Ok (at verb (record o { options = o.options ++ only (positive (Tag m) ∷ []) ∷ []; tags = l }) (behind_tagged verb)) in r)
      (ap (λ (l : List (List ℕ)). place_among l word) e ∙ is.place) (ap (λ (l : List (List ℕ)). with_name l word) e ∙ is.behind))

  -- the name of a tag that is put
  put_name : (verb : Verb) (o : Told) (k known next : ℕ) (rest : List (List ℕ)) → o.tags ≡ names known → known ≤ 2 ^ 32 → behind_tag k known ≡ Some next
      → whole site n t (at verb o expect.TagName) (tag_name k ∷ rest) ≡ whole site n t (at verb (record o { tag = Some k; tags = names next }) (expects_behind_tag verb)) rest
  put_name verb o k known next rest e few h =
      let is = tag_read k known next few h in
      let word = tag_name k in
      let d = at verb o expect.TagName in
      take_bare site n t d (at verb (record o { tag = Some k; tags = names next }) (expects_behind_tag verb)) word rest (tag_bare laws k)
      (if_false (is_any_mark (plain_word n word)) (Err Syntax) _ (plain_off site n t word (tag_bare laws k))
      ∙ ap₂ (λ (m : ℕ) (l : List (List ℕ)). let r : Result RuleDraft Cause = Ok (at verb (record o { tag = Some m; tags = l }) (expects_behind_tag verb)) in r)
      (ap (λ (l : List (List ℕ)). place_among l word) e ∙ is.place) (ap (λ (l : List (List ℕ)). with_name l word) e ∙ is.behind))

  -- what is known of tags behind one that may be named
  pub record AreKnown (o : Told) (known : ℕ) : Type 0 where
    pub tags : o.tags ≡ names known
    pub few : known ≤ 2 ^ 32

  pub tagged_known : (once : Bool) (k : Option ℕ) (o : Told) (known next : ℕ) → AreKnown o known → behind_put k known ≡ Some next → AreKnown (told_tagged once k next o) next
  tagged_known once None o known next is h = (let same : known ≡ next = cc in record { tags = is.tags ∙ ap names same; few = omega (arith, is.few) })
  tagged_known once (Some k) o known next is h = record { tags = refl; few = (tag_read k known next is.few h).few }

  pub tag_known : (once : Bool) (k : Option ℕ) (o : Told) (known next : ℕ) → AreKnown o known → behind_put k known ≡ Some next → AreKnown (told_tag once k next o) next
  tag_known once None o known next is h = (let same : known ≡ next = cc in record { tags = is.tags ∙ ap names same; few = omega (arith, is.few) })
  tag_known once (Some k) o known next is h = record { tags = refl; few = (tag_read k known next is.few h).few }

  -- Options of filter rules

  tagged_begun : (verb : Verb) (o : Told) (rest : List (List ℕ)) → IsFilter verb → o.has_tagged ≡ false
      → whole site n t (at verb o expect.Option) (codes "tagged" ∷ rest) ≡ whole site n t (at verb (record o { has_tagged = true }) (expect.TaggedName true)) rest
  unfolding option_word
  tagged_begun _ o rest blocks h = take site n t (at verbs.Block o expect.Option) (at verbs.Block (record o { has_tagged = true }) (expect.TaggedName true)) (codes "tagged") rest (if_false o.has_tagged (Err Syntax) _ h)
  tagged_begun _ o rest passes h = take site n t (at verbs.Pass o expect.Option) (at verbs.Pass (record o { has_tagged = true }) (expect.TaggedName true)) (codes "tagged") rest (if_false o.has_tagged (Err Syntax) _ h)

  tag_begun : (verb : Verb) (o : Told) (rest : List (List ℕ)) → IsFilter verb → o.has_tag ≡ false
      → whole site n t (at verb o expect.Option) (codes "tag" ∷ rest) ≡ whole site n t (at verb (record o { has_tag = true }) expect.TagName) rest
  unfolding option_word
  tag_begun _ o rest blocks h = take site n t (at verbs.Block o expect.Option) (at verbs.Block (record o { has_tag = true }) expect.TagName) (codes "tag") rest (if_false o.has_tag (Err Syntax) _ h)
  tag_begun _ o rest passes h = take site n t (at verbs.Pass o expect.Option) (at verbs.Pass (record o { has_tag = true }) expect.TagName) (codes "tag") rest (if_false o.has_tag (Err Syntax) _ h)

  filter_tagged : (verb : Verb) → IsFilter verb → behind_tagged verb ≡ expect.Option
  filter_tagged _ blocks = refl
  filter_tagged _ passes = refl

  filter_tag : (verb : Verb) → IsFilter verb → expects_behind_tag verb ≡ expect.Option
  filter_tag _ blocks = refl
  filter_tag _ passes = refl

  pub tagged_taken : (k : Option ℕ) (verb : Verb) (o : Told) (known next : ℕ) (rest : List (List ℕ)) → IsFilter verb → AreKnown o known → behind_put k known ≡ Some next → o.has_tagged ≡ false
      → whole site n t (at verb o expect.Option) (tag_texts k ++ rest) ≡ whole site n t (at verb (told_tagged true k next o) expect.Option) rest
  tagged_taken None verb o known next rest filter is h off = refl
  tagged_taken (Some k) verb o known next rest filter is h off =
      tagged_begun verb o (tag_name k ∷ rest) filter off
      ∙ asked_name verb (record o { has_tagged = true }) k known next rest is.tags is.few h
      ∙ ap (λ e. whole site n t (at verb (told_tagged true (Some k) next o) e) rest) (filter_tagged verb filter)

  pub tag_taken : (k : Option ℕ) (verb : Verb) (o : Told) (known next : ℕ) (rest : List (List ℕ)) → IsFilter verb → AreKnown o known → behind_put k known ≡ Some next → o.has_tag ≡ false
      → whole site n t (at verb o expect.Option) (tag_words k ++ rest) ≡ whole site n t (at verb (told_tag true k next o) expect.Option) rest
  tag_taken None verb o known next rest filter is h off = refl
  tag_taken (Some k) verb o known next rest filter is h off =
      tag_begun verb o (tag_name k ∷ rest) filter off
      ∙ put_name verb (record o { has_tag = true }) k known next rest is.tags is.few h
      ∙ ap (λ e. whole site n t (at verb (told_tag true (Some k) next o) e) rest) (filter_tag verb filter)

  -- state is kept, and any flags pass
  pub kept_taken : (o : Told) (rest : List (List ℕ)) → o.has_state ≡ false
      → whole site n t (at verbs.Pass o expect.Option) (codes "keep" ∷ codes "state" ∷ rest) ≡ whole site n t (at verbs.Pass (record o { has_state = true }) expect.Option) rest
  unfolding option_word
  kept_taken o rest h =
      take site n t (at verbs.Pass o expect.Option) (at verbs.Pass (record o { has_state = true }) (expect.State true)) (codes "keep") (codes "state" ∷ rest) (if_false o.has_state (Err Syntax) _ h)

  pub any_taken : (o : Told) (rest : List (List ℕ)) → o.has_flags ≡ false
      → whole site n t (at verbs.Pass o expect.Option) (codes "flags" ∷ codes "any" ∷ rest) ≡ whole site n t (at verbs.Pass (record o { has_flags = true }) expect.Option) rest
  unfolding option_word
  any_taken o rest h =
      take site n t (at verbs.Pass o expect.Option) (at verbs.Pass (record o { has_flags = true }) expect.Flags) (codes "flags") (codes "any" ∷ rest) (if_false o.has_flags (Err Syntax) _ h)

  -- Options of translations

  pub translation_tag_taken : (k : Option ℕ) (verb : Verb) (o : Told) (known next : ℕ) (rest : List (List ℕ)) → IsTranslation verb → AreKnown o known → behind_put k known ≡ Some next
      → whole site n t (at verb o expect.Option) (tag_words k ++ rest) ≡ whole site n t (at verb (told_tag o.has_tag k next o) (option_map_or (λ k. expect.Tagged) k expect.Option)) rest
  translation_tag_taken None verb o known next rest is known_is h = refl
  translation_tag_taken (Some k) _ o known next rest redirects is h = put_name verbs.Rdr o k known next rest is.tags is.few h
  translation_tag_taken (Some k) _ o known next rest hides is h = put_name verbs.Nat o k known next rest is.tags is.few h

  -- ahead of the tag that is asked for
  pub data AheadOfTagged : Expects → Type 0 where
    option_left : AheadOfTagged expect.Option
    tagged_left : AheadOfTagged expect.Tagged

  ahead_of : {next : Expects} → AheadOfTagged next → AheadOfArrow next
  ahead_of option_left = option
  ahead_of tagged_left = tagged

  pub behind_put_tag : (k : Option ℕ) → AheadOfTagged (option_map_or (λ k. expect.Tagged) k expect.Option)
  behind_put_tag None = option_left
  behind_put_tag (Some k) = tagged_left

  -- what is read ahead of the arrow
  pub record IsAsked (k : Option ℕ) (verb : Verb) (o : Told) (next : ℕ) (now : Expects) (rest : List (List ℕ)) : Type 0 where
    pub then : Expects
    pub ahead : AheadOfArrow then
    pub read : whole site n t (at verb o now) (tag_texts k ++ rest) ≡ whole site n t (at verb (told_tagged o.has_tagged k next o) then) rest

  pub translation_tagged_taken : (k : Option ℕ) (verb : Verb) (o : Told) (known next : ℕ) (now : Expects) (rest : List (List ℕ)) → IsTranslation verb → AreKnown o known → behind_put k known ≡ Some next → AheadOfTagged now
      → IsAsked k verb o next now rest
  translation_tagged_taken None verb o known next now rest is known_is h ahead = record { then = now; ahead = ahead_of ahead; read = refl }
  translation_tagged_taken (Some k) _ o known next _ rest redirects is h option_left = record { then = expect.Arrow; ahead = arrow; read = asked_name verbs.Rdr o k known next rest is.tags is.few h }
  translation_tagged_taken (Some k) _ o known next _ rest hides is h option_left = record { then = expect.Arrow; ahead = arrow; read = asked_name verbs.Nat o k known next rest is.tags is.few h }
  translation_tagged_taken (Some k) _ o known next _ rest redirects is h tagged_left = record { then = expect.Arrow; ahead = arrow; read = asked_name verbs.Rdr o k known next rest is.tags is.few h }
  translation_tagged_taken (Some k) _ o known next _ rest hides is h tagged_left = record { then = expect.Arrow; ahead = arrow; read = asked_name verbs.Nat o k known next rest is.tags is.few h }
