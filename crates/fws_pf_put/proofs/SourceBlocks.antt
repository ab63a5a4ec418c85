-- The translations that write the source of one state.
use Rattle.std.proofs.Common.{◌≡◌, ℕ, ◌+◌, ◌-◌, ◌^◌, ◌<◌, ◌≤◌, Bool, true, false, cond, ◌&&◌, ◌||◌, nat_eq, nat_le, nat_lt, Option, Some, None, option_and_then, position, slice_get, List, [], ◌∷◌, map, All, arith, refl, sym, ap, ◌∙◌}
use Rattle.std.proofs.lemmas.Bool.{false≢true, and_from, eq-eqb, le-leb, lt-ltb, ne_eqb}
use Rattle.std.proofs.lemmas.List.Elements.{All-head, All-tail}
use Rattle.std.specs.List.{list_all, list_any}
use Rattle.fws_num.specs.declared.prefix.Prefix.{Prefix}
use Rattle.fws_iv.specs.declared.iv.Iv.{Iv}
use Rattle.fws_iv.specs.Ivs.{has}
use Rattle.fws_iv.specs.Prefixes.{IsBlock, agree, some_prefix_has}
use Rattle.fws_net.specs.declared.condition.Test.TheVariants.{Src, Tag}
use Rattle.fws_net.specs.declared.outcome.End.{End}
use Rattle.fws_net.specs.declared.site.Site.{Site}
use Rattle.fws_net.specs.declared.transit.Transit.{Transit}
use Rattle.fws_pf.specs.Walk.{chosen}
use Rattle.fws_pf_put.specs.Blocks.{AreBlocksOf}
use Rattle.fws_print.specs.Sets.{is_range}
use Rattle.fws_pf_print.specs.Printable.{is_block, is_printed_cond, is_printed_end, is_printed_port, is_printed_translation}
use Rattle.fws_pf_put.specs.Sources.{IsSourceBlock, IsWrittenOver, WritesSource, addresses, asked, block_rule, same_end, whole_rule}
use Rattle.fws_pf_put.proofs.BlockSets.{block_agrees, block_has}
use Rattle.fws_pf_put.proofs.Sizes.{last_fits}

some_is : {X : Type 0} {x y : X} → Some x ≡ Some y → x ≡ y
some_is h = cc

none_is : {X : Type 0} {x : X} → None ≡ Some x → ⊥
none_is h = cc

-- the one tag of a packet
one_tag : (k : ℕ) (tags : List ℕ) → tags ≡ k ∷ [] → list_any (nat_eq k) tags ≡ true
one_tag k tags is = ap (list_any (nat_eq k)) is ∙ ap (λ b. b || false) (eq-eqb k k refl)

-- Translations of all packets with a tag

whole_others : (site : Site) (t : Transit) (k : ℕ) (to : Option End) → list_any (nat_eq k) t.tags ≡ false → chosen site true (whole_rule k to ∷ []) t ≡ None
whole_others site t k to lacks = ap (λ b. cond (b && true) (Some (whole_rule k to)) None) lacks

whole_own : (site : Site) (t : Transit) (k : ℕ) (to : Option End) → t.tags ≡ k ∷ [] → WritesSource to (chosen site true (whole_rule k to ∷ []) t)
whole_own site t k to tags = record {
  nat = whole_rule k to;
  is = ap (λ b. cond (b && true) (Some (whole_rule k to)) None) (one_tag k t.tags tags);
  past = refl;
  tag = refl;
  to = refl;
}

pub kept_block : (ends : List End) (sets : List (List Iv)) (k : ℕ) → IsSourceBlock ends sets k None (whole_rule k None ∷ [])
kept_block ends sets k = record {
  printed = λ site. refl;
  others = λ site t lacks. whole_others site t k None lacks;
  own = λ site t tags writable. whole_own site t k None tags;
}

whole_printed : (site : Site) (k : ℕ) (e : End) → e.addr < 2 ^ 32 → e.len ≡ 32 → e.port ≡ None → list_all (is_printed_translation site false) (whole_rule k (Some e) ∷ []) ≡ true
whole_printed site k e fits whole bare =
    and_from (is_printed_translation site false (whole_rule k (Some e))) true
    (and_from (nat_lt e.addr (2 ^ 32)) (cond (nat_eq e.len 32) (is_printed_port false (asked (Tag k) ∷ []) e.port) (is_block e.len [])) (lt-ltb e.addr (2 ^ 32) fits)
    (ap (λ b. cond b (is_printed_port false (asked (Tag k) ∷ []) e.port) (is_block e.len [])) (eq-eqb e.len 32 whole)
    ∙ ap (λ port. is_printed_port false (asked (Tag k) ∷ []) port) bare))
    refl

pub whole_block : (ends : List End) (sets : List (List Iv)) (k : ℕ) (e : End) → e.addr < 2 ^ 32 → e.len ≡ 32 → e.port ≡ None → IsSourceBlock ends sets k (Some e) (whole_rule k (Some e) ∷ [])
whole_block ends sets k e fits whole bare = record {
  printed = λ site. whole_printed site k e fits whole bare;
  others = λ site t lacks. whole_others site t k (Some e) lacks;
  own = λ site t tags writable. whole_own site t k (Some e) tags;
}

-- No translations

pub port_block : (ends : List End) (sets : List (List Iv)) (k : ℕ) (e : End) → (e.port ≡ None → ⊥) → IsSourceBlock ends sets k (Some e) []
port_block ends sets k e port = record {
  printed = λ site. refl;
  others = λ site t lacks. refl;
  own = λ site t tags writable. absurd (port writable.0);
}

abbrev pub looked_up : List End → List (List Iv) → End → Option (List Iv)
looked_up ends sets e = option_and_then (λ i. slice_get sets i) (position (same_end e) ends)

written_up : (ends : List End) (sets : List (List Iv)) (e : End) (addr : ℕ) → (w : IsWrittenOver ends sets e addr) → looked_up ends sets e ≡ Some w.set
written_up ends sets e addr w = ap (option_and_then (λ i. slice_get sets i)) w.found ∙ w.there

pub lacking_block : (ends : List End) (sets : List (List Iv)) (k : ℕ) (e : End) → e.len < 32 → looked_up ends sets e ≡ None → IsSourceBlock ends sets k (Some e) []
lacking_block ends sets k e short none = record {
  printed = λ site. refl;
  others = λ site t lacks. refl;
  own = λ site t tags writable. let w = writable.1 (lt-ltb e.len 32 short) in absurd (none_is (sym none ∙ written_up ends sets e t.packet.src w));
}

-- Translations of blocks

module _ (ends : List End) (sets : List (List Iv)) (k : ℕ) (e : End) (fits : e.addr < 2 ^ 32) (short : e.len < 32) where
  block_printed : (site : Site) (block : Prefix) → IsBlock block → e.len ≤ block.len → is_printed_translation site false (block_rule k e block) ≡ true
  block_printed site block sound longer =
      let hi = block.addr + (2 ^ (32 - block.len) - 1) in
      let last = last_fits block.addr block.len (2 ^ (32 - block.len)) refl sound.short sound.fits sound.cleared in
      let low : is_range 4294967295 (addresses block) ≡ true = and_from (nat_le block.addr hi) (nat_le hi 4294967295) (le-leb block.addr hi (omega arith)) (le-leb hi 4294967295 (omega (arith, last))) in
      let asks : is_printed_cond site (asked (Src (addresses block)) ∷ asked (Tag k) ∷ []) ≡ true = ap (λ b. true && (b && true)) low in
      let off : nat_eq e.len 32 ≡ false = ne_eqb e.len 32 (omega (arith, short)) in
      let writes : is_printed_end false (asked (Src (addresses block)) ∷ asked (Tag k) ∷ []) e ≡ true =
      and_from (nat_lt e.addr (2 ^ 32)) (cond (nat_eq e.len 32) (is_printed_port false (asked (Src (addresses block)) ∷ asked (Tag k) ∷ []) e.port) (agree e.len block.addr hi)) (lt-ltb e.addr (2 ^ 32) fits)
      (ap (λ b. cond b (is_printed_port false (asked (Src (addresses block)) ∷ asked (Tag k) ∷ []) e.port) (agree e.len block.addr hi)) off ∙ block_agrees block sound e.len longer) in
      and_from (is_printed_cond site (asked (Src (addresses block)) ∷ asked (Tag k) ∷ []) && true) (is_printed_end false (asked (Src (addresses block)) ∷ asked (Tag k) ∷ []) e)
      (and_from (is_printed_cond site (asked (Src (addresses block)) ∷ asked (Tag k) ∷ [])) true asks refl) writes

  abbrev IsPart : Prefix → Type 0
  IsPart block = IsBlock block × (e.len ≤ block.len)

  blocks_printed : (site : Site) (blocks : List Prefix) → All IsPart blocks → list_all (is_printed_translation site false) (map (block_rule k e) blocks) ≡ true
  blocks_printed site [] parts = refl
  blocks_printed site (block ∷ blocks) parts =
      let first = All-head IsPart block blocks parts in
      and_from (is_printed_translation site false (block_rule k e block)) (list_all (is_printed_translation site false) (map (block_rule k e) blocks))
      (block_printed site block first.0 first.1) (blocks_printed site blocks (All-tail IsPart block blocks parts))

  never : (b : Bool) → (b && (false && true)) ≡ false
  never true = refl
  never false = refl

  blocks_others : (site : Site) (t : Transit) (blocks : List Prefix) → list_any (nat_eq k) t.tags ≡ false → chosen site true (map (block_rule k e) blocks) t ≡ None
  blocks_others site t [] lacks = refl
  blocks_others site t (block ∷ blocks) lacks =
      ap (λ b. cond (has (addresses block) t.packet.src && (b && true)) (Some (block_rule k e block)) (chosen site true (map (block_rule k e) blocks) t)) lacks
      ∙ ap (λ b. cond b (Some (block_rule k e block)) (chosen site true (map (block_rule k e) blocks) t)) (never (has (addresses block) t.packet.src))
      ∙ blocks_others site t blocks lacks

  by_first : (site : Site) (t : Transit) (block : Prefix) (blocks : List Prefix) → list_any (nat_eq k) t.tags ≡ true → (b : Bool) → has (addresses block) t.packet.src ≡ b
      → (b || some_prefix_has blocks t.packet.src) ≡ true
      → (some_prefix_has blocks t.packet.src ≡ true → WritesSource (Some e) (chosen site true (map (block_rule k e) blocks) t))
      → WritesSource (Some e) (chosen site true (map (block_rule k e) (block ∷ blocks)) t)
  by_first site t block blocks tag true hit some later = record {
    nat = block_rule k e block;
    is = ap (λ b. cond (has (addresses block) t.packet.src && (b && true)) (Some (block_rule k e block)) (chosen site true (map (block_rule k e) blocks) t)) tag
        ∙ ap (λ b. cond (b && (true && true)) (Some (block_rule k e block)) (chosen site true (map (block_rule k e) blocks) t)) hit;
    past = refl;
    tag = refl;
    to = refl;
  }
  by_first site t block blocks tag false hit some later =
      let rest = later some in
      record {
        nat = rest.nat;
        is = ap (λ b. cond (b && (list_any (nat_eq k) t.tags && true)) (Some (block_rule k e block)) (chosen site true (map (block_rule k e) blocks) t)) hit ∙ rest.is;
        past = rest.past;
        tag = rest.tag;
        to = rest.to;
      }

  blocks_own : (site : Site) (t : Transit) (blocks : List Prefix) → All IsPart blocks → list_any (nat_eq k) t.tags ≡ true → some_prefix_has blocks t.packet.src ≡ true
      → WritesSource (Some e) (chosen site true (map (block_rule k e) blocks) t)
  blocks_own site t [] parts tag some = absurd (false≢true some)
  blocks_own site t (block ∷ blocks) parts tag some =
      let first = All-head IsPart block blocks parts in
      by_first site t block blocks tag (has (addresses block) t.packet.src) refl (ap (λ b. b || some_prefix_has blocks t.packet.src) (block_has block first.0 t.packet.src) ∙ some)
      (blocks_own site t blocks (All-tail IsPart block blocks parts) tag)

  pub network_block : (set : List Iv) (blocks : List Prefix) → looked_up ends sets e ≡ Some set → AreBlocksOf e.len set blocks → IsSourceBlock ends sets k (Some e) (map (block_rule k e) blocks)
  network_block set blocks found are = record {
    printed = λ site. blocks_printed site blocks are.sound;
    others = λ site t lacks. blocks_others site t blocks lacks;
    own = λ site t tags writable.
        let w = writable.1 (lt-ltb e.len 32 short) in
        let same : set ≡ w.set = some_is (sym found ∙ written_up ends sets e t.packet.src w) in
        blocks_own site t blocks are.sound (one_tag k t.tags tags) (are.members t.packet.src (ap (λ s. has s t.packet.src) same ∙ w.among));
  }
