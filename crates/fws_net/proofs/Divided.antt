-- How the networks of a block lead its addresses.
use Rattle.std.proofs.Common.{◌≡◌, ℕ, suc, ◌+◌, ◌-◌, ◌^◌, ◌<◌, ◌≤◌, Bool, true, false, ◌&&◌, ◌||◌, not, cond, nat_eq, nat_lt, Option, Some, None, List, [], ◌∷◌, length, slice_index_or, map, inl, inr, arith, refl, sym, ap, subst, ◌∙◌, eq-eqb}
use Rattle.std.specs.List.{All, find, list_all}
use Rattle.std.specs.Option.{option_map_or, option_or}
use Rattle.std.proofs.lemmas.Bool.{and_parts, and_left, and_right, cases_Bool, cases_order, both_ways, ltb-true, eqb-true, lt-ltb, le-ltb, ne_eqb, false_from_ne_true, not-true}
use Rattle.std.proofs.lemmas.List.Elements.{All-head, All-tail, All-cons, All-nil, All-append, All-map, All-weaker, All-contains, All-filter, All-same, filter_passes}
use Rattle.fws_iv.specs.Prefixes.{agree, IsBlock}
use Rattle.fws_num.specs.declared.prefix.Prefix.{Prefix}
use Rattle.fws_net.specs.declared.site.Iface.{Iface}
use Rattle.fws_net.specs.declared.site.RouteLine.{RouteLine}
use Rattle.fws_net.specs.declared.site.Site.{Site}
use Rattle.fws_net.specs.RouteSets.{leads_alike, is_within, is_block, nets_within, block_entry, first_half, second_half, AreFrom}
use Rattle.fws_net.specs.Routes.{leads, longer, longest, led_to, net_line, nets_from, prefixes_of, IsSound, IsSoundAddress, IsSoundFace, IsSoundRoute}
use Rattle.fws_net.proofs.Halves.{agree_in_fewer, agree_both, agree_back, agree_halves}
use Rattle.fws_net.proofs.Longest.{longer-first, longer-second, longest_among}

-- The networks that are longer than the block, and the first that is the block

longer_within : (block : Prefix) (lines : List RouteLine) (v : ℕ) (m : RouteLine) → longest (nets_within block lines) v ≡ Some m
    → block.len < m.net.len
longer_within block lines v m e =
    let passes : is_within block m ≡ true =
    All-contains (λ l. is_within block l ≡ true) (nets_within block lines) m (filter_passes (is_within block) lines)
    (longest_among (nets_within block lines) v m e) in
    ltb-true block.len m.net.len (and_parts (nat_lt block.len m.net.len) (agree block.len block.addr m.net.addr) passes).0

found_passes : (p : RouteLine → Bool) (x : RouteLine) (o : Option RouteLine) (k : RouteLine) (t : Bool) → p x ≡ t
    → (o ≡ Some k → p k ≡ true) → cond t (Some x) o ≡ Some k → p k ≡ true
found_passes p x o k true h later e = let same : x ≡ k = cc in ap p (sym same) ∙ h
found_passes p x o k false h later e = later e

find_passes : (p : RouteLine → Bool) (lines : List RouteLine) (k : RouteLine) → find p lines ≡ Some k → p k ≡ true
find_passes p [] k e = absurd cc
find_passes p (x ∷ lines) k e = found_passes p x (find p lines) k (p x) refl (find_passes p lines k) e

found_is_block : (block : Prefix) (lines : List RouteLine) (k : RouteLine) → find (is_block block) lines ≡ Some k → k.net.len ≡ block.len
found_is_block block lines k e =
    eqb-true k.net.len block.len
    (and_parts (nat_eq k.net.len block.len) (agree block.len block.addr k.net.addr) (find_passes (is_block block) lines k e)).0

-- a network of the block's length is ahead of the first that is the block, and behind longer ones
block_ahead : (x : RouteLine) (len : ℕ) (inner own : Option RouteLine) → x.net.len ≡ len
    → ((m : RouteLine) → inner ≡ Some m → len < m.net.len) → ((k : RouteLine) → own ≡ Some k → k.net.len ≡ len)
    → Some (longer x (option_or inner own)) ≡ option_or inner (Some x)
block_ahead x len None None e inside first = refl
block_ahead x len None (Some k) e inside first = ap (λ l. Some l) (longer-first x k (omega (arith, first k refl)))
block_ahead x len (Some m) own e inside first = ap (λ l. Some l) (longer-second x m (omega (arith, inside m refl)))

-- a longer one is ahead of it
inner_ahead : (x : RouteLine) (len : ℕ) (inner own : Option RouteLine) → len < x.net.len
    → ((k : RouteLine) → own ≡ Some k → k.net.len ≡ len)
    → Some (longer x (option_or inner own)) ≡ option_or (Some (longer x inner)) own
inner_ahead x len None None e first = refl
inner_ahead x len None (Some k) e first = ap (λ l. Some l) (longer-first x k (omega (arith, first k refl)))
inner_ahead x len (Some m) own e first = refl

-- a line more, as it lies in the block or beside it
beside : (block : Prefix) (x : RouteLine) (lines : List RouteLine) (v : ℕ) (rest : Option RouteLine)
    → leads x v ≡ false → agree block.len block.addr x.net.addr ≡ false
    → rest ≡ option_or (longest (nets_within block lines) v) (find (is_block block) lines)
    → cond (leads x v) (Some (longer x rest)) rest ≡ option_or (longest (nets_within block (x ∷ lines)) v) (find (is_block block) (x ∷ lines))
beside block x lines v rest no_lead no_agree e =
    let not_within : is_within block x ≡ false = and_right (nat_lt block.len x.net.len) (agree block.len block.addr x.net.addr) no_agree in
    let not_block : is_block block x ≡ false = and_right (nat_eq x.net.len block.len) (agree block.len block.addr x.net.addr) no_agree in
    ap (λ t. cond t (Some (longer x rest)) rest) no_lead ∙ e
    ∙ sym (ap (λ t. option_or (longest (cond t (x ∷ nets_within block lines) (nets_within block lines)) v) (find (is_block block) (x ∷ lines))) not_within
    ∙ ap (λ t. option_or (longest (nets_within block lines) v) (cond t (Some x) (find (is_block block) lines))) not_block)

itself : (block : Prefix) (x : RouteLine) (lines : List RouteLine) (v : ℕ) (rest : Option RouteLine)
    → x.net.len ≡ block.len → leads x v ≡ true → agree block.len block.addr x.net.addr ≡ true
    → rest ≡ option_or (longest (nets_within block lines) v) (find (is_block block) lines)
    → cond (leads x v) (Some (longer x rest)) rest ≡ option_or (longest (nets_within block (x ∷ lines)) v) (find (is_block block) (x ∷ lines))
itself block x lines v rest len lead there e =
    let inner : Option RouteLine = longest (nets_within block lines) v in
    let own : Option RouteLine = find (is_block block) lines in
    let not_within : is_within block x ≡ false = and_left (nat_lt block.len x.net.len) (agree block.len block.addr x.net.addr) (le-ltb block.len x.net.len (omega arith)) in
    let is : is_block block x ≡ true = ap (λ t. t && agree block.len block.addr x.net.addr) (eq-eqb x.net.len block.len len) ∙ there in
    ap (λ t. cond t (Some (longer x rest)) rest) lead ∙ ap (λ r. Some (longer x r)) e
    ∙ block_ahead x block.len inner own len (λ m h. longer_within block lines v m h) (λ k h. found_is_block block lines k h)
    ∙ sym (ap (λ t. option_or (longest (cond t (x ∷ nets_within block lines) (nets_within block lines)) v) (find (is_block block) (x ∷ lines))) not_within
    ∙ ap (λ t. option_or inner (cond t (Some x) own)) is)

inner_line : (block : Prefix) (x : RouteLine) (lines : List RouteLine) (v : ℕ) (rest : Option RouteLine) (t : Bool)
    → leads x v ≡ t → block.len < x.net.len → rest ≡ option_or (longest (nets_within block lines) v) (find (is_block block) lines)
    → cond t (Some (longer x rest)) rest ≡ option_or (cond t (Some (longer x (longest (nets_within block lines) v))) (longest (nets_within block lines) v)) (find (is_block block) lines)
inner_line block x lines v rest true lead len e =
    ap (λ r. Some (longer x r)) e
    ∙ inner_ahead x block.len (longest (nets_within block lines) v) (find (is_block block) lines) len (λ k h. found_is_block block lines k h)
inner_line block x lines v rest false lead len e = e

inside : (block : Prefix) (x : RouteLine) (lines : List RouteLine) (v : ℕ) (rest : Option RouteLine)
    → block.len < x.net.len → agree block.len block.addr x.net.addr ≡ true
    → rest ≡ option_or (longest (nets_within block lines) v) (find (is_block block) lines)
    → cond (leads x v) (Some (longer x rest)) rest ≡ option_or (longest (nets_within block (x ∷ lines)) v) (find (is_block block) (x ∷ lines))
inside block x lines v rest len there e =
    let is : is_within block x ≡ true = ap (λ t. t && agree block.len block.addr x.net.addr) (lt-ltb block.len x.net.len len) ∙ there in
    let not_block : is_block block x ≡ false = and_left (nat_eq x.net.len block.len) (agree block.len block.addr x.net.addr) (ne_eqb x.net.len block.len (λ same. omega arith)) in
    inner_line block x lines v rest (leads x v) refl len e
    ∙ sym (ap (λ t. option_or (longest (cond t (x ∷ nets_within block lines) (nets_within block lines)) v) (find (is_block block) (x ∷ lines))) is
    ∙ ap (λ t. option_or (longest (x ∷ nets_within block lines) v) (cond t (Some x) (find (is_block block) lines))) not_block)

-- a network that doesn't begin with the bits of the block holds none of its addresses
leads_none : (block : Prefix) (x : RouteLine) (v : ℕ) → block.len ≤ x.net.len → x.net.len ≤ 32
    → agree block.len block.addr v ≡ true → agree block.len block.addr x.net.addr ≡ false → leads x v ≡ false
leads_none block x v from short there apart = false_from_ne_true (leads x v) (λ lead.
    let fewer : agree block.len x.net.addr v ≡ true = agree_in_fewer block.len x.net.len x.net.addr v from short lead in
    both_ways (agree block.len block.addr x.net.addr) apart
    (agree_both block.len v block.addr x.net.addr (agree_back block.len block.addr v there) (agree_back block.len x.net.addr v fewer)))

-- the block holds its addresses
leads_all : (block : Prefix) (x : RouteLine) (v : ℕ) → x.net.len ≡ block.len → agree block.len block.addr v ≡ true
    → agree block.len block.addr x.net.addr ≡ true → leads x v ≡ true
leads_all block x v len there same =
    ap (λ n. agree n x.net.addr v) len ∙ agree_both block.len block.addr x.net.addr v same there

line_more : (block : Prefix) (x : RouteLine) (lines : List RouteLine) (v : ℕ) (rest : Option RouteLine) → block.len ≤ x.net.len → x.net.len ≤ 32
    → agree block.len block.addr v ≡ true
    → rest ≡ option_or (longest (nets_within block lines) v) (find (is_block block) lines)
    → cond (leads x v) (Some (longer x rest)) rest ≡ option_or (longest (nets_within block (x ∷ lines)) v) (find (is_block block) (x ∷ lines))
line_more block x lines v rest from short there e = elim (cases_Bool (agree block.len block.addr x.net.addr)) [
  | inl same ↦ elim (cases_order x.net.len block.len) [
    | inl len ↦ itself block x lines v rest len (leads_all block x v len there same) same e
    | inr other ↦ elim other [
      | inl less ↦ absurd (omega arith)
      | inr more ↦ inside block x lines v rest more same e
    ]
  ]
  | inr apart ↦ beside block x lines v rest (leads_none block x v from short there apart) apart e
]

-- the longest of the longer networks within a block, else the first that is the block
longest_in_block : (block : Prefix) (lines : List RouteLine) (v : ℕ) → AreFrom block.len lines → agree block.len block.addr v ≡ true
    → longest lines v ≡ option_or (longest (nets_within block lines) v) (find (is_block block) lines)
longest_in_block block [] v from there = refl
longest_in_block block (x ∷ lines) v from there =
    let P : RouteLine → Type 0 = λ line. (block.len ≤ line.net.len) × (line.net.len ≤ 32) in
    let here : P x = All-head P x lines from in
    line_more block x lines v (longest lines v) here.0 here.1 there (longest_in_block block lines v (All-tail P x lines from) there)

-- Where the addresses of a block are led

entry_of_either : (o p : Option RouteLine) (other : ℕ)
    → option_map_or (λ line. line.face) (option_or o p) other ≡ option_map_or (λ line. line.face) o (option_map_or (λ line. line.face) p other)
entry_of_either None p other = refl
entry_of_either (Some x) p other = refl

led_in_block : (block : Prefix) (lines : List RouteLine) (other v : ℕ) → AreFrom block.len lines → agree block.len block.addr v ≡ true
    → led_to lines other v ≡ led_to (nets_within block lines) (block_entry block lines other) v
led_in_block block lines other v from there =
    ap (λ o. option_map_or (λ line. line.face) o other) (longest_in_block block lines v from there)
    ∙ entry_of_either (longest (nets_within block lines) v) (find (is_block block) lines) other

under_test : (t : Bool) (a b entry : ℕ) → (t ≡ true → a ≡ b) → (t && nat_eq a entry) ≡ (t && nat_eq b entry)
under_test true a b entry h = ap (λ n. nat_eq n entry) (h refl)
under_test false a b entry h = refl

-- by the longer networks, and another entry for the rest
pub led_by_longer : (block : Prefix) (lines : List RouteLine) (other entry v : ℕ) → AreFrom block.len lines
    → (agree block.len block.addr v && nat_eq (led_to (nets_within block lines) (block_entry block lines other) v) entry)
    ≡ (agree block.len block.addr v && nat_eq (led_to lines other v) entry)
led_by_longer block lines other entry v from =
    under_test (agree block.len block.addr v) (led_to (nets_within block lines) (block_entry block lines other) v) (led_to lines other v) entry
    (λ there. sym (led_in_block block lines other v from there))

either_tests : (old some one two : Bool) → ((old || (one && some)) || (two && some)) ≡ (old || ((one || two) && some))
either_tests true some one two = refl
either_tests false true true two = refl
either_tests false false true true = refl
either_tests false false true false = refl
either_tests false some false two = refl

-- the halves of a block together
pub led_in_halves : (block one two : Prefix) (lines longer again : List RouteLine) (other rest entry v : ℕ) (old middle new : Bool)
    → block.len < 32 → IsBlock block → AreFrom block.len lines
    → one ≡ first_half block → two ≡ second_half block → longer ≡ nets_within block lines → again ≡ nets_within block lines → rest ≡ block_entry block lines other
    → middle ≡ (old || (agree one.len one.addr v && nat_eq (led_to longer rest v) entry))
    → new ≡ (middle || (agree two.len two.addr v && nat_eq (led_to again rest v) entry))
    → new ≡ (old || (agree block.len block.addr v && nat_eq (led_to lines other v) entry))
led_in_halves block one two lines longer again other rest entry v old middle new short is from first second kept kept_again left e f =
    let led : List RouteLine → ℕ → Bool = λ ls n. nat_eq (led_to ls n v) entry in
    let there : Bool = led (nets_within block lines) (block_entry block lines other) in
    let in_first : Bool = agree (block.len + 1) block.addr v in
    let in_second : Bool = agree (block.len + 1) (block.addr + 2 ^ (31 - block.len)) v in
    let same : led longer rest ≡ there = ap (λ ls. led ls rest) kept ∙ ap (λ n. led (nets_within block lines) n) left in
    let same_again : led again rest ≡ there = ap (λ ls. led ls rest) kept_again ∙ ap (λ n. led (nets_within block lines) n) left in
    f ∙ ap (λ b. middle || (agree b.len b.addr v && led again rest)) second ∙ ap (λ t. middle || (in_second && t)) same_again
    ∙ ap (λ m. m || (in_second && there)) (e ∙ ap (λ b. old || (agree b.len b.addr v && led longer rest)) first ∙ ap (λ t. old || (in_first && t)) same)
    ∙ either_tests old there in_first in_second ∙ ap (λ t. old || (t && there)) (sym (agree_halves block v short is))
    ∙ ap (λ t. old || t) (led_by_longer block lines other entry v from)

All-passes : (p : RouteLine → Bool) (lines : List RouteLine) → list_all p lines ≡ true → All (λ l. p l ≡ true) lines
All-passes p [] h = All-nil (λ l. p l ≡ true)
All-passes p (x ∷ lines) h =
    let both = and_parts (p x) (list_all p lines) h in
    All-cons (λ l. p l ≡ true) x lines both.0 (All-passes p lines both.1)

-- what every network of a list passes the longest that holds an address passes
longest_passes : (p : RouteLine → Bool) (lines : List RouteLine) (v : ℕ) (m : RouteLine) → list_all p lines ≡ true → longest lines v ≡ Some m → p m ≡ true
longest_passes p lines v m h e =
    All-contains (λ l. p l ≡ true) lines m (All-passes p lines h) (longest_among lines v m e)

alike : (asked : Bool) (face entry : ℕ) → (cond asked (nat_eq face entry) (not (nat_eq face entry))) ≡ true → nat_eq face entry ≡ asked
alike true face entry h = h
alike false face entry h = not-true (nat_eq face entry) h

entry_alike : (o : Option RouteLine) (rest entry : ℕ) → ((m : RouteLine) → o ≡ Some m → leads_alike entry (nat_eq rest entry) m ≡ true)
    → nat_eq (option_map_or (λ line. line.face) o rest) entry ≡ nat_eq rest entry
entry_alike None rest entry h = refl
entry_alike (Some m) rest entry h = alike (nat_eq rest entry) m.face entry (h m refl)

-- a block whose longer networks all lead to the entry, as the rest of it does, or none of them
pub led_as_one : (block : Prefix) (lines longer : List RouteLine) (other rest entry v : ℕ) (asked : Bool) → AreFrom block.len lines
    → longer ≡ nets_within block lines → rest ≡ block_entry block lines other → asked ≡ nat_eq rest entry → list_all (leads_alike entry asked) longer ≡ true
    → (agree block.len block.addr v && asked) ≡ (agree block.len block.addr v && nat_eq (led_to lines other v) entry)
led_as_one block lines longer other rest entry v asked from kept left is alike_all =
    let there : Bool = agree block.len block.addr v in
    let led : nat_eq (led_to longer rest v) entry ≡ nat_eq rest entry =
    entry_alike (longest longer v) rest entry (λ m e. longest_passes (leads_alike entry (nat_eq rest entry)) longer v m
    (ap (λ t. list_all (leads_alike entry t) longer) (sym is) ∙ alike_all) e) in
    ap (λ t. there && t) (is ∙ sym led)
    ∙ ap (λ ls. there && nat_eq (led_to ls rest v) entry) kept
    ∙ ap (λ n. there && nat_eq (led_to (nets_within block lines) n v) entry) left
    ∙ led_by_longer block lines other entry v from

-- the longer networks are within the halves
longer_from : (block : Prefix) (lines : List RouteLine) → AreFrom block.len lines → AreFrom (block.len + 1) (nets_within block lines)
longer_from block lines from =
    let P : RouteLine → Type 0 = λ line. (block.len ≤ line.net.len) × (line.net.len ≤ 32) in
    λ k d h.
    let x : RouteLine = slice_index_or (nets_within block lines) k d in
    let kept : P x = All-filter (is_within block) P lines from k d h in
    let passes : is_within block x ≡ true = filter_passes (is_within block) lines k d h in
    let longer : block.len < x.net.len = ltb-true block.len x.net.len (and_parts (nat_lt block.len x.net.len) (agree block.len block.addr x.net.addr) passes).0 in
    (omega arith, kept.1)

pub half_from : (block half : Prefix) (lines longer : List RouteLine) → AreFrom block.len lines → longer ≡ nets_within block lines
    → half.len ≡ block.len + 1 → AreFrom half.len longer
half_from block half lines longer from kept one_more =
    let P : ℕ → Type 0 = λ n. AreFrom n longer in
    subst P (sym one_more) (All-same (λ line. (block.len + 1 ≤ line.net.len) × (line.net.len ≤ 32)) longer (nets_within block lines) kept (longer_from block lines from))

some_is_short : (block : Prefix) (p : RouteLine → Bool) (longer : List RouteLine) → AreFrom (block.len + 1) longer → list_all p longer ≡ false → block.len < 32
some_is_short block p [] from some = absurd cc
some_is_short block p (x ∷ longer) from some =
    let P : RouteLine → Type 0 = λ line. (block.len + 1 ≤ line.net.len) × (line.net.len ≤ 32) in
    let here : P x = All-head P x longer from in
    omega arith

-- a block of which a longer network doesn't pass a test has two halves
pub short_block : (block : Prefix) (p : RouteLine → Bool) (lines longer : List RouteLine) → AreFrom block.len lines → longer ≡ nets_within block lines
    → list_all p longer ≡ false → block.len < 32
short_block block p lines longer from kept some =
    some_is_short block p (nets_within block lines) (longer_from block lines from) (ap (λ ls. list_all p ls) (sym kept) ∙ some)

-- The prefixes of a site

nets_sound : (n : ℕ) (faces : List Iface) → All IsSoundFace faces → AreFrom 0 (nets_from n faces)
nets_sound n [] h = All-nil (λ line. (0 ≤ line.net.len) × (line.net.len ≤ 32))
nets_sound n (face ∷ faces) h =
    let P : RouteLine → Type 0 = λ line. (0 ≤ line.net.len) × (line.net.len ≤ 32) in
    let here : IsSoundFace face = All-head IsSoundFace face faces h in
    All-append P (map (net_line n) face.addrs) (nets_from (suc n) faces)
    (All-map P (net_line n) face.addrs (All-weaker IsSoundAddress (λ own. P (net_line n own)) (λ own s. (omega arith, s.1)) face.addrs here.1))
    (nets_sound (suc n) faces (All-tail IsSoundFace face faces h))

pub prefixes_sound : (site : Site) → IsSound site → AreFrom 0 (prefixes_of site)
prefixes_sound site is =
    let P : RouteLine → Type 0 = λ line. (0 ≤ line.net.len) × (line.net.len ≤ 32) in
    All-append P (nets_from 2 site.faces) site.routes (nets_sound 2 site.faces is.faces_sound)
    (All-weaker (IsSoundRoute (length site.faces)) P (λ line s. (omega arith, s.0)) site.routes is.routes_sound)
