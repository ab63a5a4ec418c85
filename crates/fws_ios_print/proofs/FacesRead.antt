-- The lines of interfaces are read as their sides and as the lists that are applied there.
use Rattle.std.proofs.Common.{◌≡◌, ◌≢◌, ℕ, zero, suc, ◌+◌, ◌-◌, ◌*◌, ◌<◌, ◌≤◌, Bool, true, false, cond, not, nat_eq, nat_le, nat_lt, Some, Result, Ok, Err, List, [], ◌∷◌, ◌++◌, length, map, slice_get, filter, codes, refl, ap, sym, ◌∙◌, append_assoc, append-nil, arith, subst, inl, inr}
use Rattle.std.proofs.lemmas.Bool.{and_from, and_parts, or_left, or_right, leb-true, le-leb, ltb-true, lt-ltb, eqb-true, eqb-false, not_from_false, cases_Bool, cond_both, ne_eqb}
use Rattle.std.proofs.lemmas.List.{length-append}
use Rattle.std.proofs.lemmas.List.Folds.{list_all-append}
use Rattle.std.specs.List.{list_all}
use Rattle.std.specs.Option.{option_map_or}
use Rattle.fws_num.specs.Words.{is_printed}
use Rattle.fws_num.specs.Written.{is_plain, spaced}
use Rattle.fws_iv.specs.declared.iv.Iv.{Iv}
use Rattle.fws_iv.specs.Ivs.{has}
use Rattle.fws_net.specs.declared.cause.Cause.{Cause}
use Rattle.fws_net.specs.declared.cause.Cause.TheVariants.{Syntax}
use Rattle.fws_net.specs.declared.packet.Lang.TheVariants.{Ios}
use Rattle.fws_net.specs.declared.site.Iface.{Iface}
use Rattle.fws_net.specs.declared.site.Site.{Site}
use Rattle.fws_net.specs.Faces.{entry_named}
use Rattle.fws_net.specs.Reading.{and_then}
use Rattle.fws_net.specs.SiteLaws.{IsOrderly}
use Rattle.fws_rules.specs.Names.{interface_name}
use Rattle.fws_ios.specs.declared.config.IosConfig.{IosConfig}
use Rattle.fws_ios.specs.declared.config.IosGroup.{IosGroup}
use Rattle.fws_ios.specs.declared.config.IosList.{IosList}
use Rattle.fws_ios.specs.declared.config.IosNat.{IosNat}
use Rattle.fws_ios.specs.declared.draft.Block.{Block}
use Rattle.fws_ios.specs.declared.draft.Block.TheVariants as blocks
use Rattle.fws_ios.specs.declared.draft.IosDraft.{IosDraft}
use Rattle.fws_ios.specs.declared.draft.Marked.{Marked}
use Rattle.fws_ios.specs.declared.draft.Pool.{Pool}
use Rattle.fws_ios.specs.FileText.{is_elsewhere, with_group}
use Rattle.fws_ios_print.specs.Printable.{face_count, group_place, groups_ascend, is_list_name, is_printed_group}
use Rattle.fws_ios_print.specs.PrintedText.{direction_word, face_lines, face_names, group_lines, group_words, groups_behind, headed, interface_lines, interface_words, interfaces_lines, inner_line, side_lines}
use Rattle.fws_ios_print.proofs.Basics.{if_true, if_false}
use Rattle.fws_ios_print.proofs.Laws.{Laws}
use Rattle.fws_ios_print.proofs.LinesTaken.{AreTaken, comment_taken, IsStep, next_taken, none_taken, plain_sound, taken_append, words_more}
use Rattle.fws_ios_print.proofs.ListsRead.{name_plain, text_at}

kept : {A : Type 0} (p : A → Bool) (xs : List A) → list_all p xs ≡ true → filter p xs ≡ xs
kept p [] h = refl
kept {A} p (x ∷ xs) h = (let parts = and_parts (p x) (list_all p xs) h in if_true (p x) (x ∷ filter p xs) (filter p xs) parts.0 ∙ ap (λ (l : List A). x ∷ l) (kept p xs parts.1))

-- Sides

-- the mark of an interface that is on a side
abbrev pub side_marks : Bool → List Iv → ℕ → List Marked
side_marks outside set face = cond (has set face) (record { face = face; outside = outside } ∷ []) []

-- the marks of an interface
abbrev pub marks_at : IosConfig → ℕ → List Marked
marks_at c face = side_marks false c.inside face ++ side_marks true c.outside face

-- those of so many interfaces from one on
abbrev pub marks_from : IosConfig → ℕ → ℕ → List Marked
marks_from c zero face = []
marks_from c (suc count) face = marks_at c face ++ marks_from c count (face + 1)

abbrev others : ℕ → List Marked → Bool
others face ms = list_all (λ m. not (nat_eq m.face face)) ms

-- marks of interfaces below this one
abbrev below : ℕ → List Marked → Bool
below face ms = list_all (λ m. nat_lt m.face face) ms

below_others : (face : ℕ) (ms : List Marked) → below face ms ≡ true → others face ms ≡ true
below_others face [] h = refl
below_others face (m ∷ ms) h =
    let parts = and_parts (nat_lt m.face face) (below face ms) h in
    let lt : m.face < face = ltb-true m.face face parts.0 in
    and_from (not (nat_eq m.face face)) (others face ms) (not_from_false (nat_eq m.face face) (ne_eqb m.face face (λ e. omega arith))) (below_others face ms parts.1)

below_next : (face : ℕ) (ms : List Marked) → below face ms ≡ true → below (face + 1) ms ≡ true
below_next face [] h = refl
below_next face (m ∷ ms) h =
    let parts = and_parts (nat_lt m.face face) (below face ms) h in
    let lt : m.face < face = ltb-true m.face face parts.0 in
    and_from (nat_lt m.face (face + 1)) (below (face + 1) ms) (lt-ltb m.face (face + 1) (omega arith)) (below_next face ms parts.1)

side_below : (outside : Bool) (set : List Iv) (face : ℕ) → below (face + 1) (side_marks outside set face) ≡ true
side_below outside set face =
    cond_both (has set face) (record { face = face; outside = outside } ∷ []) [] (λ (ms : List Marked). below (face + 1) ms ≡ true) (λ e. and_from (nat_lt face (face + 1)) true (lt-ltb face (face + 1) (omega arith)) refl) (λ e. refl)

below_append : (face : ℕ) (xs ys : List Marked) → below face xs ≡ true → below face ys ≡ true → below face (xs ++ ys) ≡ true
below_append face xs ys h k = list_all-append (λ m. nat_lt m.face face) xs ys ∙ and_from (below face xs) (below face ys) h k

-- Lists that are applied

-- those of this interface, which stand first
abbrev own_groups : ℕ → List IosGroup → List IosGroup
own_groups face [] = []
own_groups face (g ∷ gs) = cond (nat_eq g.face face) (g ∷ own_groups face gs) []

own_behind : (face : ℕ) (gs : List IosGroup) → own_groups face gs ++ groups_behind face gs ≡ gs
own_behind face [] = refl
own_behind face (g ∷ gs) = by_test (nat_eq g.face face) (own_behind face gs)
  where
    by_test : (b : Bool) → own_groups face gs ++ groups_behind face gs ≡ gs → cond b (g ∷ own_groups face gs) [] ++ cond b (groups_behind face gs) (g ∷ gs) ≡ g ∷ gs
    by_test true h = ap (λ (l : List IosGroup). g ∷ l) h
    by_test false h = refl

-- all have a place below this one
abbrev ahead : ℕ → List IosGroup → Bool
ahead place gs = list_all (λ g. nat_lt (group_place g) place) gs

ahead_append : (place : ℕ) (xs ys : List IosGroup) → ahead place xs ≡ true → ahead place ys ≡ true → ahead place (xs ++ ys) ≡ true
ahead_append place xs ys h k = list_all-append (λ g. nat_lt (group_place g) place) xs ys ∙ and_from (ahead place xs) (ahead place ys) h k

ahead_more : (p q : ℕ) (gs : List IosGroup) → p ≤ q → ahead p gs ≡ true → ahead q gs ≡ true
ahead_more p q [] le h = refl
ahead_more p q (g ∷ gs) le h =
    let parts = and_parts (nat_lt (group_place g) p) (ahead p gs) h in
    let lt : group_place g < p = ltb-true (group_place g) p parts.0 in
    and_from (nat_lt (group_place g) q) (ahead q gs) (lt-ltb (group_place g) q (omega arith)) (ahead_more p q gs le parts.1)

-- a list that is applied at a place below another one is applied elsewhere
is_apart : (g h : IosGroup) → group_place g < group_place h → is_elsewhere h.face h.outward g ≡ true
is_apart g h lt = elim (cases_Bool (nat_eq g.face h.face)) [
  | inl e ↦ or_right (not (nat_eq g.face h.face)) (cond h.outward (not g.outward) g.outward) (directions g.outward h.outward (eqb-true g.face h.face e) lt)
  | inr e ↦ or_left (not (nat_eq g.face h.face)) (cond h.outward (not g.outward) g.outward) (not_from_false (nat_eq g.face h.face) e)
]
  where
    directions : (a b : Bool) → g.face ≡ h.face → 2 * g.face + cond a 1 0 < 2 * h.face + cond b 1 0 → cond b (not a) a ≡ true
    directions true true same lt = absurd (omega arith)
    directions false true same lt = refl
    directions true false same lt = absurd (omega arith)
    directions false false same lt = absurd (omega arith)

ahead_apart : (gs : List IosGroup) (h : IosGroup) → ahead (group_place h) gs ≡ true → list_all (is_elsewhere h.face h.outward) gs ≡ true
ahead_apart [] h k = refl
ahead_apart (g ∷ gs) h k =
    let parts = and_parts (nat_lt (group_place g) (group_place h)) (ahead (group_place h) gs) k in
    and_from (is_elsewhere h.face h.outward g) (list_all (is_elsewhere h.face h.outward) gs) (is_apart g h (ltb-true (group_place g) (group_place h) parts.0)) (ahead_apart gs h parts.1)

place_within : (g : IosGroup) → (2 * g.face ≤ group_place g) × (group_place g ≤ 2 * g.face + 1)
place_within g = by_direction g.outward
  where
    by_direction : (b : Bool) → (2 * g.face ≤ 2 * g.face + cond b 1 0) × (2 * g.face + cond b 1 0 ≤ 2 * g.face + 1)
    by_direction true = (omega arith, omega arith)
    by_direction false = (omega arith, omega arith)

own_ahead : (face : ℕ) (gs : List IosGroup) → ahead (2 * (face + 1)) (own_groups face gs) ≡ true
own_ahead face [] = refl
own_ahead face (g ∷ gs) =
    cond_both (nat_eq g.face face) (g ∷ own_groups face gs) [] (λ (l : List IosGroup). ahead (2 * (face + 1)) l ≡ true)
    (λ e.
    let same : g.face ≡ face = eqb-true g.face face e in
    let most : group_place g ≤ 2 * g.face + 1 = (place_within g).1 in
    and_from (nat_lt (group_place g) (2 * (face + 1))) (ahead (2 * (face + 1)) (own_groups face gs)) (lt-ltb (group_place g) (2 * (face + 1)) (omega arith)) (own_ahead face gs))
    (λ e. refl)

behind_ascend : (face least : ℕ) (gs : List IosGroup) → 2 * face ≤ least → groups_ascend least gs ≡ true → groups_ascend (2 * (face + 1)) (groups_behind face gs) ≡ true
behind_ascend face least [] low h = refl
behind_ascend face least (g ∷ gs) low h =
    let parts = and_parts (nat_le least (group_place g)) (groups_ascend (group_place g + 1) gs) h in
    let from : least ≤ group_place g = leb-true least (group_place g) parts.0 in
    let most : group_place g ≤ 2 * g.face + 1 = (place_within g).1 in
    let least_of : 2 * g.face ≤ group_place g = (place_within g).0 in
    cond_both (nat_eq g.face face) (groups_behind face gs) (g ∷ gs) (λ (l : List IosGroup). groups_ascend (2 * (face + 1)) l ≡ true)
    (λ e. behind_ascend face (group_place g + 1) gs (omega arith) parts.1)
    (λ e.
    let other : g.face ≢ face = eqb-false g.face face e in
    and_from (nat_le (2 * (face + 1)) (group_place g)) (groups_ascend (group_place g + 1) gs) (le-leb (2 * (face + 1)) (group_place g) (omega arith)) parts.1)

behind_printed : (site : Site) (face : ℕ) (gs : List IosGroup) → list_all (is_printed_group site) gs ≡ true → list_all (is_printed_group site) (groups_behind face gs) ≡ true
behind_printed site face [] h = refl
behind_printed site face (g ∷ gs) h =
    cond_both (nat_eq g.face face) (groups_behind face gs) (g ∷ gs) (λ (l : List IosGroup). list_all (is_printed_group site) l ≡ true)
    (λ e. behind_printed site face gs (and_parts (is_printed_group site g) (list_all (is_printed_group site) gs) h).1) (λ e. h)

-- behind the last interface nothing is left
none_left : (site : Site) (face : ℕ) (gs : List IosGroup) → face_count site < face → groups_ascend (2 * face) gs ≡ true → list_all (is_printed_group site) gs ≡ true → gs ≡ []
none_left site face [] past h printed = refl
none_left site face (g ∷ gs) past h printed =
    let parts = and_parts (nat_le (2 * face) (group_place g)) (groups_ascend (group_place g + 1) gs) h in
    let from : 2 * face ≤ group_place g = leb-true (2 * face) (group_place g) parts.0 in
    let most : group_place g ≤ 2 * g.face + 1 = (place_within g).1 in
    let within = and_parts (nat_le g.face (face_count site)) (is_list_name g.list) (and_parts (is_printed_group site g) (list_all (is_printed_group site) gs) printed).0 in
    let high : g.face ≤ face_count site = leb-true g.face (face_count site) within.0 in
    absurd (omega arith)

-- lines that are none change nothing
none_changed : (site : Site) (defined p q : List Pool) (d e : IosDraft) (lines : List (List ℕ)) → AreTaken site defined p d lines q e → lines ≡ [] → d ≡ e
none_changed site defined p q d e _ none_taken h = refl
none_changed site defined p q d e _ (comment_taken k later) h = absurd cc
none_changed site defined p q d e _ (next_taken b word words plain mark step later) h = absurd cc

-- Interfaces by their entries

-- as many interfaces from this entry on
abbrev pub numbered_lines : Site → IosConfig → ℕ → ℕ → List IosGroup → List (List ℕ)
numbered_lines site c zero face gs = []
numbered_lines site c (suc count) face gs = interface_lines c face (interface_name Ios site face) gs ++ numbered_lines site c count (face + 1) (groups_behind face gs)

item_behind : {A : Type 0} (front : List A) (x : A) (xs : List A) → slice_get (front ++ x ∷ xs) (length front) ≡ Some x
item_behind [] x xs = refl
item_behind (y ∷ front) x xs = item_behind front x xs

name_behind : (site : Site) (front : List Iface) (face : Iface) (faces : List Iface) → site.faces ≡ front ++ face ∷ faces → interface_name Ios site (length front + 2) ≡ face.names.ios
name_behind site front face faces e =
    let same : length front + 2 - 2 ≡ length front = omega arith in
    if_false (nat_eq (length front + 2) 1) site.lo.ios (option_map_or (λ face. face.names.ios) (slice_get site.faces (length front + 2 - 2)) []) (ne_eqb (length front + 2) 1 (λ k. omega arith))
    ∙ ap (λ m. option_map_or (λ face. face.names.ios) (slice_get site.faces m) []) same
    ∙ ap (λ (l : List Iface). option_map_or (λ face. face.names.ios) (slice_get l (length front)) []) e
    ∙ ap (λ o. option_map_or (λ face. face.names.ios) o []) (item_behind front face faces)

faces_numbered : (site : Site) (c : IosConfig) (front faces : List Iface) (gs : List IosGroup) → site.faces ≡ front ++ faces
    → numbered_lines site c (length faces) (length front + 2) gs ≡ interfaces_lines c (length front + 2) (map (λ face. face.names.ios) faces) gs
faces_numbered site c front [] gs e = refl
faces_numbered site c front (face ∷ faces) gs e =
    let n = length front + 2 in
    let one : List Iface = face ∷ [] in
    let next : length (front ++ one) + 2 ≡ n + 1 = ap (λ k. k + 2) (length-append front one) ∙ moved (length front) in
    let rest = groups_behind n gs in
    let names = map (λ (f : Iface). f.names.ios) faces in
    let later : numbered_lines site c (length faces) (n + 1) rest ≡ interfaces_lines c (n + 1) names rest =
    ap (λ k. numbered_lines site c (length faces) k rest) (sym next) ∙ faces_numbered site c (front ++ one) faces rest (e ∙ sym (append_assoc front one faces)) ∙ ap (λ k. interfaces_lines c k names rest) next in
    ap (λ name. interface_lines c n name gs ++ numbered_lines site c (length faces) (n + 1) rest) (name_behind site front face faces e)
    ∙ ap (λ lines. interface_lines c n face.names.ios gs ++ lines) later
  where
    moved : (k : ℕ) → k + 1 + 2 ≡ k + 2 + 1
    moved k = omega arith

pub all_numbered : (site : Site) (c : IosConfig) (gs : List IosGroup) → numbered_lines site c (face_count site) 1 gs ≡ interfaces_lines c 1 (face_names site) gs
all_numbered site c gs =
    let count : length site.faces + 1 ≡ suc (length site.faces) = omega arith in
    ap (λ k. numbered_lines site c k 1 gs) count ∙ ap (λ lines. interface_lines c 1 site.lo.ios gs ++ lines) (faces_numbered site c [] site.faces (groups_behind 1 gs) refl)

module _ (laws : Laws) (site : Site) (orderly : IsOrderly site) (defined pools : List Pool) (lists : List IosList) (names : List (List ℕ)) (nats : List IosNat) where
  abbrev faced : Block → List IosGroup → List Marked → IosDraft
  faced block gs ms = text_at block lists gs ms names nats

  abbrev Taken : IosDraft → List (List ℕ) → IosDraft → Type 0
  Taken d lines e = AreTaken site defined pools d lines pools e

  abbrev within : ℕ → Block
  within face = blocks.Interface (Some face)

  -- an interface is opened
  opening_step : (b : Block) (face : ℕ) (gs : List IosGroup) (ms : List Marked) → 1 ≤ face → face ≤ face_count site
      → IsStep site defined false (interface_words (interface_name Ios site face)) pools (faced b gs ms) pools (faced (within face) gs ms)
  opening_step b face gs ms low high n = (
    if_true (list_all is_printed (interface_name Ios site face)) (let x : Result IosDraft Cause = Ok (faced (blocks.Interface (entry_named Ios site (interface_name Ios site face))) gs ms) in x) (Err Syntax)
        (plain_sound (interface_name Ios site face) ((laws.named Ios site orderly).plain face low high))
        ∙ ap (λ o. Ok (faced (blocks.Interface o) gs ms)) ((laws.named Ios site orderly).leads face low high),
    refl,
  )

  -- Sides

  mark_taken : (outside : Bool) (face : ℕ) (gs : List IosGroup) (ms : List Marked) → others face ms ≡ true
      → Taken (faced (within face) gs ms) (inner_line (codes "ip" ∷ codes "nat" ∷ cond outside (codes "outside") (codes "inside") ∷ []) ∷ []) (faced (within face) gs (ms ++ record { face = face; outside = outside } ∷ []))
  mark_taken false face gs ms h =
      next_taken true (codes "ip") (codes "nat" ∷ codes "inside" ∷ []) refl refl
      (λ n. (ap (λ l. Ok (faced (within face) gs (l ++ record { face = face; outside = false } ∷ []))) (kept (λ other. not (nat_eq other.face face)) ms h), refl)) none_taken
  mark_taken true face gs ms h =
      next_taken true (codes "ip") (codes "nat" ∷ codes "outside" ∷ []) refl refl
      (λ n. (ap (λ l. Ok (faced (within face) gs (l ++ record { face = face; outside = true } ∷ []))) (kept (λ other. not (nat_eq other.face face)) ms h), refl)) none_taken

  side_taken : (outside : Bool) (set : List Iv) (face : ℕ) (gs : List IosGroup) (ms : List Marked) → (has set face ≡ true → others face ms ≡ true)
      → Taken (faced (within face) gs ms) (side_lines (cond outside (codes "outside") (codes "inside")) set face) (faced (within face) gs (ms ++ side_marks outside set face))
  side_taken outside set face gs ms h = by_test (has set face) refl
    where
      by_test : (b : Bool) → has set face ≡ b
          → Taken (faced (within face) gs ms) (cond b (inner_line (codes "ip" ∷ codes "nat" ∷ cond outside (codes "outside") (codes "inside") ∷ []) ∷ []) [])
          (faced (within face) gs (ms ++ cond b (record { face = face; outside = outside } ∷ []) []))
      by_test true e = mark_taken outside face gs ms (h e)
      by_test false e = subst (λ (l : List Marked). Taken (faced (within face) gs ms) [] (faced (within face) gs l)) (sym (append-nil ms)) none_taken

  -- Lists that are applied

  direction_plain : (outward : Bool) → is_plain (direction_word outward) ≡ true
  direction_plain true = refl
  direction_plain false = refl

  group_step : (face : ℕ) (name : List ℕ) (outward : Bool) (done : List IosGroup) (ms : List Marked) → is_plain name ≡ true
      → IsStep site defined true (codes "ip" ∷ codes "access-group" ∷ name ∷ direction_word outward ∷ []) pools (faced (within face) done ms) pools
      (with_group (record { face = face; outward = outward; list = name }) (faced (within face) done ms))
  group_step face name true done ms plain n = (
    ap (λ o. and_then o (λ (group : List ℕ × Bool). let x : Result IosDraft Cause = Ok (with_group (record { face = face; outward = group.1; list = group.0 }) (faced (within face) done ms)) in x))
        (if_true (list_all is_printed name) (let x : Result (List ℕ × Bool) Cause = Ok (name, true) in x) (Err Syntax) (plain_sound name plain)),
    refl,
  )
  group_step face name false done ms plain n = (
    ap (λ o. and_then o (λ (group : List ℕ × Bool). let x : Result IosDraft Cause = Ok (with_group (record { face = face; outward = group.1; list = group.0 }) (faced (within face) done ms)) in x))
        (if_true (list_all is_printed name) (let x : Result (List ℕ × Bool) Cause = Ok (name, false) in x) (Err Syntax) (plain_sound name plain)),
    refl,
  )

  group_taken : (g : IosGroup) (done : List IosGroup) (ms : List Marked) (lines : List (List ℕ)) (e : IosDraft) → is_list_name g.list ≡ true → ahead (group_place g) done ≡ true
      → Taken (faced (within g.face) (done ++ g ∷ []) ms) lines e → Taken (faced (within g.face) done ms) (inner_line (group_words g) ∷ lines) e
  group_taken g done ms lines e h off later =
      let plain = name_plain g.list h in
      next_taken true (codes "ip") (codes "access-group" ∷ g.list ∷ direction_word g.outward ∷ [])
      (words_more (codes "ip") (codes "access-group" ∷ g.list ∷ direction_word g.outward ∷ []) refl
      (words_more (codes "access-group") (g.list ∷ direction_word g.outward ∷ []) refl
      (words_more g.list (direction_word g.outward ∷ []) plain (words_more (direction_word g.outward) [] (direction_plain g.outward) refl))))
      refl
      (λ n.
      let step = group_step g.face g.list g.outward done ms plain n in
      (step.0 ∙ ap (λ l. Ok (faced (within g.face) (l ++ g ∷ []) ms)) (kept (is_elsewhere g.face g.outward) done (ahead_apart done g off)), step.1))
      later

  groups_taken : (face least : ℕ) (gs done : List IosGroup) (ms : List Marked) → list_all (is_printed_group site) gs ≡ true → groups_ascend least gs ≡ true → ahead least done ≡ true
      → Taken (faced (within face) done ms) (group_lines face gs) (faced (within face) (done ++ own_groups face gs) ms)
  groups_taken face least [] done ms h order off = subst (λ (l : List IosGroup). Taken (faced (within face) done ms) [] (faced (within face) l ms)) (sym (append-nil done)) none_taken
  groups_taken face least (g ∷ gs) done ms h order off =
      let p = and_parts (is_printed_group site g) (list_all (is_printed_group site) gs) h in
      let q = and_parts (nat_le g.face (face_count site)) (is_list_name g.list) p.0 in
      let parts = and_parts (nat_le least (group_place g)) (groups_ascend (group_place g + 1) gs) order in
      let from : least ≤ group_place g = leb-true least (group_place g) parts.0 in
      let upto = ahead_more least (group_place g) done from off in
      by_test (nat_eq g.face face) refl q.1 upto (λ off. groups_taken face (group_place g + 1) gs (done ++ g ∷ []) ms p.1 parts.1 off)
    where
      by_test : (b : Bool) → nat_eq g.face face ≡ b → is_list_name g.list ≡ true → ahead (group_place g) done ≡ true
          → (ahead (group_place g + 1) (done ++ g ∷ []) ≡ true → Taken (faced (within face) (done ++ g ∷ []) ms) (group_lines face gs) (faced (within face) ((done ++ g ∷ []) ++ own_groups face gs) ms))
          → Taken (faced (within face) done ms) (cond b (inner_line (group_words g) ∷ group_lines face gs) []) (faced (within face) (done ++ cond b (g ∷ own_groups face gs) []) ms)
      by_test false e name upto later = subst (λ (l : List IosGroup). Taken (faced (within face) done ms) [] (faced (within face) l ms)) (sym (append-nil done)) none_taken
      by_test true e name upto later =
          let same : g.face ≡ face = eqb-true g.face face e in
          let next : group_place g ≤ group_place g + 1 = omega arith in
          let own : ahead (group_place g + 1) (g ∷ []) ≡ true = and_from (nat_lt (group_place g) (group_place g + 1)) true (lt-ltb (group_place g) (group_place g + 1) (omega arith)) refl in
          let rest = later (ahead_append (group_place g + 1) done (g ∷ []) (ahead_more (group_place g) (group_place g + 1) done next upto) own) in
          let end = faced (within face) (done ++ g ∷ own_groups face gs) ms in
          subst (λ (k : ℕ). Taken (faced (within k) done ms) (inner_line (group_words g) ∷ group_lines face gs) end) same
          (group_taken g done ms (group_lines face gs) end name upto
          (subst (λ (k : ℕ). Taken (faced (within k) (done ++ g ∷ []) ms) (group_lines face gs) end) (sym same)
          (subst (λ (l : List IosGroup). Taken (faced (within face) (done ++ g ∷ []) ms) (group_lines face gs) (faced (within face) l ms)) (append_assoc done (g ∷ []) (own_groups face gs)) rest)))

  -- Interfaces

  -- no interface is on both sides
  abbrev pub Differ : IosConfig → Type 0
  Differ c = (face : ℕ) → has c.inside face ≡ true → has c.outside face ≡ true → ⊥

  face_taken : (c : IosConfig) → Differ c → (face : ℕ) (gs done : List IosGroup) (ms : List Marked) → list_all (is_printed_group site) gs ≡ true → groups_ascend (2 * face) gs ≡ true
      → ahead (2 * face) done ≡ true → below face ms ≡ true
      → Taken (faced (within face) done ms) (face_lines c face gs) (faced (within face) (done ++ own_groups face gs) (ms ++ marks_at c face))
  face_taken c differ face gs done ms h order off low =
      let m1 = ms ++ side_marks false c.inside face in
      let m2 = m1 ++ side_marks true c.outside face in
      let other = below_others face ms low in
      let lines2 = side_lines (codes "outside") c.outside face ++ group_lines face gs in
      let d0 = faced (within face) done ms in
      let d1 = faced (within face) done m1 in
      let d2 = faced (within face) done m2 in
      let d3 = faced (within face) (done ++ own_groups face gs) m2 in
      subst (λ (l : List Marked). Taken d0 (face_lines c face gs) (faced (within face) (done ++ own_groups face gs) l)) (append_assoc ms (side_marks false c.inside face) (side_marks true c.outside face))
      (taken_append site defined pools pools pools d0 d1 d3 (side_lines (codes "inside") c.inside face) lines2 (side_taken false c.inside face done ms (λ e. other))
      (taken_append site defined pools pools pools d1 d2 d3 (side_lines (codes "outside") c.outside face) (group_lines face gs)
      (side_taken true c.outside face done m1 (λ e. unmarked (has c.inside face) (λ k. differ face k e) other)) (groups_taken face (2 * face) gs done m2 h order off)))
    where
      unmarked : (b : Bool) → (b ≡ true → ⊥) → others face ms ≡ true → others face (ms ++ cond b (record { face = face; outside = false } ∷ []) []) ≡ true
      unmarked true off h = absurd (off refl)
      unmarked false off h = ap (others face) (append-nil ms) ∙ h

  -- where interfaces have been read
  pub record AreFaced (b : Block) (done : List IosGroup) (ms : List Marked) (lines : List (List ℕ)) (all : List IosGroup) (marks : List Marked) : Type 0 where
    pub block : Block
    pub taken : Taken (faced b done ms) lines (faced block all marks)

  interface_taken : (b : Block) (face : ℕ) (done all : List IosGroup) (ms marks : List Marked) (lines : List (List ℕ)) → 1 ≤ face → face ≤ face_count site → Taken (faced (within face) done ms) lines (faced (within face) all marks)
      → AreFaced b done ms (headed (spaced (interface_words (interface_name Ios site face))) lines) all marks
  interface_taken b face done all ms marks [] low high t = record {
    block = b;
    taken = subst (λ (d : IosDraft). Taken (faced b done ms) [] (record d { block = b })) (none_changed site defined pools pools (faced (within face) done ms) (faced (within face) all marks) [] t refl) none_taken;
  }
  interface_taken b face done all ms marks (line ∷ lines) low high t = record {
    block = within face;
    taken = next_taken false (codes "interface") (interface_name Ios site face ∷ [])
        (words_more (codes "interface") (interface_name Ios site face ∷ []) refl (words_more (interface_name Ios site face) [] ((laws.named Ios site orderly).plain face low high) refl)) refl
        (opening_step b face done ms low high) t;
  }

  pub interfaces_taken : (c : IosConfig) → Differ c → (b : Block) (count face : ℕ) (gs done : List IosGroup) (ms : List Marked) → 1 ≤ face → face + count ≡ face_count site + 1
      → list_all (is_printed_group site) gs ≡ true → groups_ascend (2 * face) gs ≡ true → ahead (2 * face) done ≡ true → below face ms ≡ true
      → AreFaced b done ms (numbered_lines site c count face gs) (done ++ gs) (ms ++ marks_from c count face)
  interfaces_taken c differ b zero face gs done ms low count h order off under =
      let past : face_count site < face = omega arith in
      let none = none_left site face gs past order h in
      record {
        block = b;
        taken = subst (λ (l : List IosGroup). Taken (faced b done ms) [] (faced b (done ++ l) (ms ++ []))) (sym none)
            (subst (λ (l : List IosGroup). Taken (faced b done ms) [] (faced b l (ms ++ []))) (sym (append-nil done))
            (subst (λ (l : List Marked). Taken (faced b done ms) [] (faced b done l)) (sym (append-nil ms)) none_taken));
      }
  interfaces_taken c differ b (suc count) face gs done ms low total h order off under =
      let high : face ≤ face_count site = omega arith in
      let own = own_groups face gs in
      let rest = groups_behind face gs in
      let marks = ms ++ marks_at c face in
      let first = interface_taken b face done (done ++ own) ms marks (face_lines c face gs) low high (face_taken c differ face gs done ms h order off under) in
      let more : 2 * face ≤ 2 * (face + 1) = omega arith in
      let later = interfaces_taken c differ first.block count (face + 1) rest (done ++ own) marks (omega arith) (omega arith) (behind_printed site face gs h) (behind_ascend face (2 * face) gs (omega arith) order)
      (ahead_append (2 * (face + 1)) done own (ahead_more (2 * face) (2 * (face + 1)) done more off) (own_ahead face gs))
      (below_append (face + 1) ms (marks_at c face) (below_next face ms under) (below_append (face + 1) (side_marks false c.inside face) (side_marks true c.outside face) (side_below false c.inside face) (side_below true c.outside face))) in
      let d0 = faced b done ms in
      let d1 = faced first.block (done ++ own) marks in
      let d2 = faced later.block ((done ++ own) ++ rest) (marks ++ marks_from c count (face + 1)) in
      record {
        block = later.block;
        taken = subst (λ (l : List IosGroup). Taken d0 (numbered_lines site c (suc count) face gs) (faced later.block l (ms ++ marks_from c (suc count) face))) (append_assoc done own rest ∙ ap (λ (l : List IosGroup). done ++ l) (own_behind face gs))
            (subst (λ (l : List Marked). Taken d0 (numbered_lines site c (suc count) face gs) (faced later.block ((done ++ own) ++ rest) l)) (append_assoc ms (marks_at c face) (marks_from c count (face + 1)))
            (taken_append site defined pools pools pools d0 d1 d2 (interface_lines c face (interface_name Ios site face) gs) (numbered_lines site c count (face + 1) rest) first.taken later.taken));
      }
