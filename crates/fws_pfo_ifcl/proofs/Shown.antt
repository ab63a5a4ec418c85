-- The packet of the diagram shows that of the walk: both are alike but for tags behind those of names, which tell the number of the end
-- that is held.
use Rattle.std.proofs.Common.{◌≡◌, ◌≢◌, ℕ, ◌<◌, ◌≤◌, Bool, true, false, cond, ◌&&◌, ◌||◌, not, nat_lt, Option, Some, None, is_some, IfSome, List, [], ◌∷◌, ◌++◌, arith, refl, sym, ap, ◌∙◌, subst, inl, inr}
use Rattle.std.specs.List.{list_all, list_any}
use Rattle.std.specs.Option.{option_map_or}
use Rattle.std.proofs.lemmas.Bool.{false≢true, true≢false, and_parts, or_parts, cases_eq, eq-eqb, ne_eqb, ltb-true}
use Rattle.std.proofs.lemmas.List.Folds.{list_all-append}
use Rattle.fws_net.specs.declared.condition.Lit.{Lit}
use Rattle.fws_net.specs.declared.condition.Test.{Test}
use Rattle.fws_net.specs.declared.condition.Test.TheVariants as tests
use Rattle.fws_net.specs.declared.outcome.End.{End}
use Rattle.fws_net.specs.declared.outcome.Rewrite.{Rewrite}
use Rattle.fws_net.specs.declared.packet.Packet.{Packet}
use Rattle.fws_net.specs.declared.site.Site.{Site}
use Rattle.fws_net.specs.declared.transit.Transit.{Transit}
use Rattle.fws_net.specs.declared.view.View.{View}
use Rattle.fws_net.specs.Conditions.{test_holds, lit_holds, holds}
use Rattle.fws_net.specs.Showing.{receiving, sending}
use Rattle.fws_net.specs.Transits.{rewritten, with_verdict}
use Rattle.fws_ifcl.specs.declared.diagram.Act.TheVariants.{Hold, AddTag}
use Rattle.fws_ifcl.specs.declared.step.ChainEnd.{ChainEnd}
use Rattle.fws_ifcl.specs.Walk.{stage_end}
use Rattle.fws_pf.specs.Soundness.{test_fits, cond_fits}
use Rattle.fws_pf.specs.Walk.{view_on, tagged}
use Rattle.fws_pfo.specs.Walk.{moved, ended}
use Rattle.fws_pfo_ifcl.specs.declared.frame.Frame.{Frame}
use Rattle.fws_pfo_ifcl.specs.Blocks.{only_tag, holding, writing, tagging, without_others}
use Rattle.fws_pfo_ifcl.specs.Ends.{same_end, number_of}
use Rattle.fws_pfo_ifcl.specs.Held.{bits_of, telling}
use Rattle.fws_pfo_ifcl.proofs.Acts.{done, done_append, tags_alone, are_changes, changes_append, taggings_change}
use Rattle.fws_pfo_ifcl.proofs.Tags.{has, Tells, tags_behind, is_tagging, tags_append, tells_same, telling_below, telling_tells, telling_tags, tells_none, added, added_there, added_others, others_above, others_gone, others_tags}

-- Packets that are alike

-- so many names have their tags
pub record IsAlike (count : ℕ) (t u : Transit) : Type 0 where
  pub packet : u.packet ≡ t.packet
  pub wrote : u.wrote ≡ t.wrote
  pub tags : (m : ℕ) → m < count → has m u.tags ≡ has m t.tags

-- both go on, and alike, or both are dropped
abbrev pub Agree : ℕ → Option Transit → Option Transit → Type 0
Agree count (Some t) (Some u) = IsAlike count t u
Agree count None None = Unit {0}
Agree count _ _ = ⊥

-- choices by tests that agree
pub agree_by : (count : ℕ) (b d : Bool) → d ≡ b → (x y v w : Option Transit) → Agree count x v → Agree count y w → Agree count (cond b x y) (cond d v w)
agree_by count true true same x y v w first second = first
agree_by count false false same x y v w first second = second
agree_by count true false same x y v w first second = absurd (false≢true same)
agree_by count false true same x y v w first second = absurd (true≢false same)

-- behind a chain
pub end_by : (b : Bool) (x y : ChainEnd) → stage_end (cond b x y) ≡ cond b (stage_end x) (stage_end y)
end_by true x y = refl
end_by false x y = refl

-- Conditions

abbrev view_by : Site → Bool → Packet → List ℕ → View
view_by site outward p tags = record {
  packet = p;
  recv = receiving p;
  xmit = cond outward (sending site p) None;
  outward = outward;
  est = false;
  tags = tags;
}

-- tests of tags are of names
test_same : (count : ℕ) (whole : List Lit) (test : Test) → test_fits count whole test ≡ true → (site : Site) (outward : Bool) (p : Packet) (xs ys : List ℕ)
    → ((m : ℕ) → m < count → has m ys ≡ has m xs) → test_holds (view_by site outward p ys) test ≡ test_holds (view_by site outward p xs) test
test_same count whole (tests.Src set) fit site outward p xs ys same = refl
test_same count whole (tests.Dst set) fit site outward p xs ys same = refl
test_same count whole (tests.Sport set) fit site outward p xs ys same = refl
test_same count whole (tests.Dport set) fit site outward p xs ys same = refl
test_same count whole (tests.Proto set) fit site outward p xs ys same = refl
test_same count whole (tests.Icmp set) fit site outward p xs ys same = refl
test_same count whole (tests.Flags mask want) fit site outward p xs ys same = refl
test_same count whole (tests.AnyFlag mask) fit site outward p xs ys same = refl
test_same count whole (tests.Recv set) fit site outward p xs ys same = refl
test_same count whole (tests.Xmit set) fit site outward p xs ys same = refl
test_same count whole (tests.Via set) fit site outward p xs ys same = refl
test_same count whole tests.Outward fit site outward p xs ys same = refl
test_same count whole tests.Est fit site outward p xs ys same = refl
test_same count whole (tests.Tag n) fit site outward p xs ys same = same n (ltb-true n count fit)
test_same count whole tests.Never fit site outward p xs ys same = refl

lits_same : (count : ℕ) (whole lits : List Lit) → list_all (λ lit. test_fits count whole lit.test) lits ≡ true → (site : Site) (outward : Bool) (p : Packet) (xs ys : List ℕ)
    → ((m : ℕ) → m < count → has m ys ≡ has m xs) → holds lits (view_by site outward p ys) ≡ holds lits (view_by site outward p xs)
lits_same count whole [] fit site outward p xs ys same = refl
lits_same count whole (lit ∷ lits) fit site outward p xs ys same =
    let both = and_parts (test_fits count whole lit.test) (list_all (λ l. test_fits count whole l.test) lits) fit in
    ap (λ b. (cond lit.not (not b) b) && holds lits (view_by site outward p ys)) (test_same count whole lit.test both.0 site outward p xs ys same)
    ∙ ap (λ b. lit_holds (view_by site outward p xs) lit && b) (lits_same count whole lits both.1 site outward p xs ys same)

-- a condition that fits holds of both or of neither
pub holds_same : (count : ℕ) (test : List Lit) → cond_fits count test ≡ true → (site : Site) (outward : Bool) (t u : Transit) → IsAlike count t u
    → holds test (view_on site outward u) ≡ holds test (view_on site outward t)
holds_same count test fit site outward t u h =
    ap (λ p. holds test (view_by site outward p u.tags)) h.packet ∙ lits_same count test test fit site outward t.packet t.tags u.tags h.tags

-- What rules do

pub tagged_alike : (count : ℕ) (tag : Option ℕ) (t u : Transit) → IsAlike count t u → IsAlike count (tagged tag t) (tagged tag u)
tagged_alike count None t u h = h
tagged_alike count (Some n) t u h = record { packet = h.packet; wrote = h.wrote; tags = λ m lt. refl }

pub verdict_alike : (count : ℕ) (v : Bool) (t u : Transit) → IsAlike count t u → IsAlike count (with_verdict v t) u
verdict_alike count v t u h = record { packet = h.packet; wrote = h.wrote; tags = h.tags }

pub moved_alike : (count : ℕ) (p : Packet) (outward : Bool) (to : Option End) (t u : Transit) → IsAlike count t u → IsAlike count (moved p outward to t) (moved p outward to u)
moved_alike count p outward None t u h = h
moved_alike count p true (Some e) t u h =
    let over : Rewrite → Rewrite = λ w. record w { src = Some e } in
    record { packet = ap (λ w. rewritten p (over w)) h.wrote; wrote = ap over h.wrote; tags = h.tags }
moved_alike count p false (Some e) t u h =
    let over : Rewrite → Rewrite = λ w. record w { dst = Some e } in
    record { packet = ap (λ w. rewritten p (over w)) h.wrote; wrote = ap over h.wrote; tags = h.tags }

-- acts do so
pub writing_done : (p : Packet) (outward : Bool) (to : Option End) (u : Transit) → done p (writing outward to) u ≡ moved p outward to u
writing_done p outward None u = refl
writing_done p true (Some e) u = refl
writing_done p false (Some e) u = refl

pub only_done : (p : Packet) (tag : Option ℕ) (u : Transit) → done p (only_tag tag) u ≡ tagged tag u
only_done p None u = refl
only_done p (Some n) u = refl

pub writing_changes : (outward : Bool) (to : Option End) → are_changes (writing outward to) ≡ true
writing_changes outward None = refl
writing_changes true (Some e) = refl
writing_changes false (Some e) = refl

pub only_changes : (tag : Option ℕ) → are_changes (only_tag tag) ≡ true
only_changes None = refl
only_changes (Some n) = refl

pub holding_changes : (f : Frame) (to : Option End) → are_changes (holding f to) ≡ true
holding_changes f to = taggings_change (holding f to) (telling_tags f.tags (bits_of f.bits (number_of f.ends to)))

pub tagging_changes : (f : Frame) (may : Bool) (tag : Option ℕ) → are_changes (tagging f may tag) ≡ true
tagging_changes f may None = refl
tagging_changes f false (Some n) = refl
tagging_changes f true (Some n) = changes_append (without_others n 0 f.tags) _ (taggings_change (without_others n 0 f.tags) (others_tags n 0 f.tags)) refl

-- Where rules end

pub ended_passed : (p : Packet) (outward : Bool) (held : Option End) (t : Transit) → t.verdict ≡ true → ended p outward held t ≡ Some (moved p outward held t)
ended_passed p outward None t is = ap (λ b. cond b (Some t) None) is
ended_passed p true (Some e) t is = ap (λ b. cond b (Some (moved p true (Some e) t)) None) is
ended_passed p false (Some e) t is = ap (λ b. cond b (Some (moved p false (Some e) t)) None) is

pub ended_blocked : (p : Packet) (outward : Bool) (held : Option End) (t : Transit) → t.verdict ≡ false → ended p outward held t ≡ None
ended_blocked p outward None t is = ap (λ b. cond b (Some t) None) is
ended_blocked p true (Some e) t is = ap (λ b. cond b (Some (moved p true (Some e) t)) None) is
ended_blocked p false (Some e) t is = ap (λ b. cond b (Some (moved p false (Some e) t)) None) is

-- The end that is held

-- its number, which is that of none for a packet that is blocked so far
abbrev pub held_number : Frame → Option End → Bool → ℕ
held_number f held verdict = cond verdict (number_of f.ends held) 0

-- an end is among those of the frame
abbrev pub IsAmong : Frame → Option End → Type 0
IsAmong f held = IfSome held (λ e. list_any (same_end e) f.ends ≡ true)

-- the packet shows the other one, for which an end is held
pub record Shows (f : Frame) (may : Bool) (held : Option End) (t u : Transit) : Type 0 where
  pub alike : IsAlike f.tags t u
  pub verdict : u.verdict ≡ t.verdict
  pub told : Tells f.tags (bits_of f.bits (held_number f held t.verdict)) u.tags
  pub none : may ≡ false → held_number f held t.verdict ≡ 0
  pub among : t.verdict ≡ true → IsAmong f held

-- where more may be held
pub shows_more : (f : Frame) (may more : Bool) (held : Option End) (t u : Transit) → Shows f may held t u → Shows f (may || more) held t u
shows_more f may more held t u h =
    record { alike = h.alike; verdict = h.verdict; told = h.told; none = λ e. h.none (or_parts may more e).0; among = h.among }

-- a verdict is held, with a tag and an end
verdict_first : (f : Frame) (v : Bool) (tag : Option ℕ) (to : Option End) (u : Transit)
    → record (tagged tag (with_verdict v u)) { tags = tags_behind (holding f to) (tagged tag (with_verdict v u)).tags }
    ≡ with_verdict v (record (tagged tag u) { tags = tags_behind (holding f to) (tagged tag u).tags })
verdict_first f v None to u = refl
verdict_first f v (Some n) to u = refl

pub verdict_done : (p : Packet) (f : Frame) (v : Bool) (tag : Option ℕ) (to : Option End) (u : Transit)
    → done p (Hold v ∷ only_tag tag ++ holding f to) u ≡ with_verdict v (record (tagged tag u) { tags = tags_behind (holding f to) (tagged tag u).tags })
verdict_done p f v tag to u =
    let held = with_verdict v u in
    done_append p (only_tag tag) (holding f to) held ∙ ap (done p (holding f to)) (only_done p tag held)
    ∙ tags_alone p (holding f to) (telling_tags f.tags (bits_of f.bits (number_of f.ends to))) (tagged tag held)
    ∙ verdict_first f v tag to u

told_alike : (f : Frame) (bits : List Bool) (v : Bool) (t u : Transit) → IsAlike f.tags t u
    → IsAlike f.tags (with_verdict v t) (with_verdict v (record u { tags = tags_behind (telling f.tags bits) u.tags }))
told_alike f bits v t u h = record { packet = h.packet; wrote = h.wrote; tags = λ m lt. telling_below f.tags bits u.tags m lt ∙ h.tags m lt }

-- without an end nothing is held
no_number : (f : Frame) (may : Bool) (to : Option End) → (may || is_some to) ≡ false → number_of f.ends to ≡ 0
no_number f may None none = refl
no_number f may (Some e) none = absurd (false≢true (sym (or_parts may true none).1))

-- behind a rule that passes
pub passed : (p : Packet) (f : Frame) (may : Bool) (tag : Option ℕ) (to : Option End) (t u : Transit) → IsAlike f.tags t u → IsAmong f to
    → Shows f (may || is_some to) to (with_verdict true (tagged tag t)) (done p (Hold true ∷ only_tag tag ++ holding f to) u)
passed p f may tag to t u h among =
    let bits = bits_of f.bits (number_of f.ends to) in
    let after = tagged tag u in
    subst (λ x. Shows f (may || is_some to) to (with_verdict true (tagged tag t)) x) (sym (verdict_done p f true tag to u)) (record {
      alike = told_alike f bits true (tagged tag t) after (tagged_alike f.tags tag t u h);
      verdict = refl;
      told = telling_tells f.tags bits after.tags;
      none = no_number f may to;
      among = λ e. among;
    })

-- behind one that blocks
pub blocked : (p : Packet) (f : Frame) (may : Bool) (tag : Option ℕ) (to : Option End) (t u : Transit) → IsAlike f.tags t u
    → Shows f may to (with_verdict false (tagged tag t)) (done p (Hold false ∷ only_tag tag ++ holding f None) u)
blocked p f may tag to t u h =
    let bits = bits_of f.bits 0 in
    let after = tagged tag u in
    subst (λ x. Shows f may to (with_verdict false (tagged tag t)) x) (sym (verdict_done p f false tag None u)) (record {
      alike = told_alike f bits false (tagged tag t) after (tagged_alike f.tags tag t u h);
      verdict = refl;
      told = telling_tells f.tags bits after.tags;
      none = λ e. refl;
      among = λ e. absurd (false≢true e);
    })

-- a tag is put, and what is held stays
only_one : (m n : ℕ) → m ≢ n → has m (n ∷ []) ≡ false
only_one m n apart = ap (λ b. b || false) (ne_eqb m n apart)

one_there : (n : ℕ) → has n (n ∷ []) ≡ true
one_there n = ap (λ b. b || false) (eq-eqb n n refl)

all_tags : (n count : ℕ) → list_all is_tagging (without_others n 0 count ++ AddTag n ∷ []) ≡ true
all_tags n count = list_all-append is_tagging (without_others n 0 count) (AddTag n ∷ []) ∙ ap (λ b. b && true) (others_tags n 0 count)

abbrev others_left : ℕ → ℕ → List ℕ → List ℕ
others_left n count tags = tags_behind (without_others n 0 count) tags

names_tags : (n count : ℕ) (tags : List ℕ) → n < count → (m : ℕ) → m < count
    → has m (tags_behind (without_others n 0 count ++ AddTag n ∷ []) tags) ≡ has m (n ∷ [])
names_tags n count tags here m lt =
    let left = others_left n count tags in
    ap (has m) (tags_append (without_others n 0 count) (AddTag n ∷ []) tags) ∙ elim (cases_eq m n) [
      | inl e ↦ ap (λ k. has k (added n left)) e ∙ added_there n left ∙ sym (one_there n) ∙ ap (λ k. has k (n ∷ [])) (sym e)
      | inr apart ↦ added_others m n apart left ∙ others_gone n 0 count tags m (omega arith) (omega (arith, lt)) apart ∙ sym (only_one m n apart)
    ]

others_stay : (n count : ℕ) (tags : List ℕ) → n < count → (m : ℕ) → count ≤ m → has m (tags_behind (without_others n 0 count ++ AddTag n ∷ []) tags) ≡ has m tags
others_stay n count tags here m le =
    ap (has m) (tags_append (without_others n 0 count) (AddTag n ∷ []) tags)
    ∙ added_others m n (λ e. apart e) (tags_behind (without_others n 0 count) tags) ∙ others_above n 0 count tags m (omega (arith, le))
  where
    apart : m ≡ n → ⊥
    apart e = omega (arith, le, here, e)

pub renamed : (p : Packet) (f : Frame) (may : Bool) (tag : Option ℕ) (end : Option End) (t u : Transit) → option_map_or (λ n. nat_lt n f.tags) tag true ≡ true
    → Shows f may end t u → Shows f may end (tagged tag t) (done p (tagging f may tag) u)
renamed p f may None end t u fit h = h
renamed p f false (Some n) end t u fit h = record {
  alike = tagged_alike f.tags (Some n) t u h.alike;
  verdict = h.verdict;
  told = subst (λ k. Tells f.tags (bits_of f.bits k) (n ∷ [])) (sym (h.none refl))
      (tells_none f.bits f.tags (n ∷ []) (λ m le. only_one m n (λ e. apart m le e)));
  none = h.none;
  among = h.among;
}
  where
    here : n < f.tags
    here = ltb-true n f.tags fit

    apart : (m : ℕ) → f.tags ≤ m → m ≡ n → ⊥
    apart m le e = omega (arith, le, here, e)
renamed p f true (Some n) end t u fit h =
    let list = without_others n 0 f.tags ++ AddTag n ∷ [] in
    let here = ltb-true n f.tags fit in
    subst (λ x. Shows f true end (tagged (Some n) t) x) (sym (tags_alone p list (all_tags n f.tags) u)) (record {
      alike = record { packet = h.alike.packet; wrote = h.alike.wrote; tags = names_tags n f.tags u.tags here };
      verdict = h.verdict;
      told = tells_same f.tags (bits_of f.bits (held_number f end t.verdict)) u.tags (tags_behind list u.tags) (others_stay n f.tags u.tags here) h.told;
      none = h.none;
      among = h.among;
    })

-- an end is written, and what is held stays
pub rewrote : (p : Packet) (f : Frame) (may : Bool) (held : Option End) (outward : Bool) (to : Option End) (t u : Transit) → Shows f may held t u
    → Shows f may held (moved p outward to t) (done p (writing outward to) u)
rewrote p f may held outward None t u h = h
rewrote p f may held true (Some e) t u h =
    record { alike = moved_alike f.tags p true (Some e) t u h.alike; verdict = h.verdict; told = h.told; none = h.none; among = h.among }
rewrote p f may held false (Some e) t u h =
    record { alike = moved_alike f.tags p false (Some e) t u h.alike; verdict = h.verdict; told = h.told; none = h.none; among = h.among }
