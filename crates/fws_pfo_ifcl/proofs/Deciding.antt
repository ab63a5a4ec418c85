-- The rules of the tail decide as its rules do.
use Rattle.std.proofs.Common.{◌≡◌, ℕ, suc, ◌+◌, ◌≤◌, ◌⊎◌, inl, inr, Bool, true, false, not, cond, ◌&&◌, ◌||◌, Option, Some, None, is_some, List, [], ◌∷◌, ◌++◌, length, drop, arith, refl, sym, ap, ◌∙◌, subst, length-append, append_assoc, append-nil}
use Rattle.std.proofs.lemmas.Bool.{false≢true, and_parts, or_parts}
use Rattle.std.specs.List.{list_all, list_any}
use Rattle.fws_net.specs.declared.condition.Lit.{Lit}
use Rattle.fws_net.specs.declared.connection.Kind.TheVariants.{New}
use Rattle.fws_net.specs.declared.outcome.End.{End}
use Rattle.fws_net.specs.declared.packet.Packet.{Packet}
use Rattle.fws_net.specs.declared.site.Site.{Site}
use Rattle.fws_net.specs.declared.transit.Transit.{Transit}
use Rattle.fws_net.specs.declared.view.View.{View}
use Rattle.fws_net.specs.Conditions.{holds}
use Rattle.fws_net.specs.Transits.{with_verdict}
use Rattle.fws_ifcl.specs.declared.step.ChainEnd.TheVariants.{Accepted, Dropped}
use Rattle.fws_ifcl.specs.Walk.{stage_end}
use Rattle.fws_ifcl_rules.specs.Places.{run, Stands}
use Rattle.fws_pf.specs.Soundness.{cond_fits, tag_fits, end_fits}
use Rattle.fws_pf.specs.Walk.{view_on, tagged, is_met}
use Rattle.std.specs.Option.{option_map_or}
use Rattle.fws_pfo.specs.declared.config.PfoKind.{PfoKind}
use Rattle.fws_pfo.specs.declared.config.PfoKind.TheVariants.{Pass, Block, Match}
use Rattle.fws_pfo.specs.declared.config.PfoRule.{PfoRule}
use Rattle.fws_pfo.specs.Soundness.{passes, decides_nothing, rule_fits}
use Rattle.fws_pfo.specs.Walk.{moved, acted_by, held_by, ended, rules_walk}
use Rattle.fws_pfo_ifcl.specs.declared.ruling.Ruling.{Ruling}
use Rattle.fws_pfo_ifcl.specs.Blocks.{acting, decision, writing, writes_at_once, changes_sight, behind_changes, tail_place, ruling_by, deciding, decides_first, decides_last, quick_rulings, slow_rulings, tail_rulings, ruling_rules, tail_rules}
use Rattle.fws_pfo_ifcl.specs.Rulings.{Said, unsaid, dropping, passing, said, first_said, StandFor}
use Rattle.fws_pfo_ifcl.proofs.Acts.{acting_accepts, acting_drops}
use Rattle.fws_pfo_ifcl.proofs.Courses.{Course}
use Rattle.fws_pfo_ifcl.proofs.Shown.{IsAlike, Agree, agree_by, end_by, holds_same, moved_alike, verdict_alike, writing_done, writing_changes, ended_passed, ended_blocked}

-- What fits

-- the parts of a rule that fits
pub record FittingRule (tags : ℕ) (r : PfoRule) : Type 0 where
  pub test : cond_fits tags r.cond ≡ true
  pub tag : tag_fits tags r.tag ≡ true
  pub slow : (not r.quick || not (decides_nothing r.kind)) ≡ true

pub fitting : (tags : ℕ) (r : PfoRule) → rule_fits tags r ≡ true → FittingRule tags r
fitting tags r fit =
    let a = cond_fits tags r.cond in
    let b = tag_fits tags r.tag in
    let d = option_map_or (end_fits r.cond) r.to true in
    let e = not r.keep || passes r.kind in
    let five = and_parts (a && b && d && e) (not r.quick || not (decides_nothing r.kind)) fit in
    let two = and_parts a b (and_parts (a && b) d (and_parts (a && b && d) e five.0).0).0 in
    record { test = two.0; tag = two.1; slow = five.1 }

-- Where the tail begins

-- no rule changes what others see
abbrev pub Untouched : Bool → List PfoRule → Type 0
Untouched outward rs = list_any (changes_sight outward) rs ≡ false

-- a place is the one so far, if no rule does, or one behind which none does
abbrev Found : Bool → ℕ → ℕ → List PfoRule → ℕ → Type 0
Found outward place at rs n = ((n ≡ place) × Untouched outward rs) ⊎ ((k : ℕ) × (n ≡ at + k) × (k ≤ length rs) × Untouched outward (drop k rs))

found_first : (outward : Bool) (place at : ℕ) (r : PfoRule) (rs : List PfoRule) (n : ℕ) (b : Bool) → changes_sight outward r ≡ b
    → Found outward (cond b (at + 1) place) (at + 1) rs n → Found outward place at (r ∷ rs) n
found_first outward place at r rs n true is (inl h) = inr (1, h.0, omega arith, h.1)
found_first outward place at r rs n false is (inl h) = inl (h.0, ap (λ b. b || list_any (changes_sight outward) rs) is ∙ h.1)
found_first outward place at r rs n b is (inr h) = inr (suc h.0, omega (arith, h.1), omega (arith, h.2), h.3)

found : (outward : Bool) (place at : ℕ) (rs : List PfoRule) → Found outward place at rs (behind_changes outward place at rs)
found outward place at [] = inl (refl, refl)
found outward place at (r ∷ rs) =
    let b = changes_sight outward r in
    found_first outward place at r rs (behind_changes outward place at (r ∷ rs)) b refl (found outward (cond b (at + 1) place) (at + 1) rs)

-- the place lies within the rules
within : (outward : Bool) (rs : List PfoRule) (n : ℕ) → Found outward 0 0 rs n → n ≤ length rs
within outward rs n (inl h) = omega (arith, h.0)
within outward rs n (inr h) = omega (arith, h.1, h.2)

pub tail_within : (outward : Bool) (rs : List PfoRule) → tail_place outward rs ≤ length rs
tail_within outward rs = within outward rs (tail_place outward rs) (found outward 0 0 rs)

-- no rule of the tail changes what others see
untouched : (outward : Bool) (rs : List PfoRule) (n : ℕ) → Found outward 0 0 rs n → Untouched outward (drop n rs)
untouched outward rs n (inl h) = ap (λ k. list_any (changes_sight outward) (drop k rs)) h.0 ∙ h.1
untouched outward rs n (inr h) =
    let same : n ≡ h.0 = omega (arith, h.1) in
    ap (λ k. list_any (changes_sight outward) (drop k rs)) same ∙ h.3

pub tail_untouched : (outward : Bool) (rs : List PfoRule) → Untouched outward (drop (tail_place outward rs) rs)
tail_untouched outward rs = untouched outward rs (tail_place outward rs) (found outward 0 0 rs)

-- What the rules of the tail decide

-- a rule of the kind that matches, or others
abbrev decided_by : Packet → Bool → Option End → PfoKind → Bool → Transit → Option Transit → Option Transit
decided_by p outward to Pass matches t o = cond matches (Some (moved p outward to t)) o
decided_by p outward to Block matches t o = cond matches None o
decided_by p outward to Match matches t o = o

-- one that may decide
abbrev choosing : Packet → Bool → Bool → Bool → PfoKind → Option End → Transit → Option Transit → Option Transit
choosing p outward decides matches kind to t o = cond decides (decided_by p outward to kind matches (with_verdict true t) o) o

-- the first quick rule that matches, and of the others the last one
abbrev quick_or : Site → Packet → Bool → List PfoRule → Transit → Option Transit → Option Transit
quick_or site p outward [] t o = o
quick_or site p outward (r ∷ rs) t o =
    choosing p outward (decides_first outward r) (holds r.cond (view_on site outward t)) r.kind r.to t (quick_or site p outward rs t o)

abbrev slow_or : Site → Packet → Bool → List PfoRule → Transit → Option Transit → Option Transit
slow_or site p outward [] t o = o
slow_or site p outward (r ∷ rs) t o =
    slow_or site p outward rs t (choosing p outward (decides_last outward r) (holds r.cond (view_on site outward t)) r.kind r.to t o)

-- Rules that change nothing that others see

-- one of them, by what is known of it
rule_decides : (p : Packet) (outward met matches quick : Bool) (kind : PfoKind) (tag : Option ℕ) (to held : Option End) (v : Bool) (t : Transit)
    (go : Option End → Transit → Option Transit) (ahead back : Option Transit → Option Transit)
    → (met && (is_some tag || writes_at_once kind (is_some to))) ≡ false → (not quick || not (decides_nothing kind)) ≡ true
    → ((h : Option End) (b : Bool) → go h (with_verdict b t) ≡ ahead (back (ended p outward h (with_verdict b t))))
    → cond (met && matches)
    (cond quick (ended p outward (held_by to kind held) (acted_by p outward to kind (tagged tag (with_verdict v t))))
    (go (held_by to kind held) (acted_by p outward to kind (tagged tag (with_verdict v t)))))
    (go held (with_verdict v t))
    ≡ choosing p outward (met && quick) matches kind to t (ahead (back (choosing p outward (met && not quick) matches kind to t (ended p outward held (with_verdict v t)))))
rule_decides p outward false matches quick kind tag to held v t go ahead back none fit next = next held v
rule_decides p outward true matches quick kind (Some n) to held v t go ahead back none fit next = absurd (false≢true (sym none))
rule_decides p outward true false true Pass None to held v t go ahead back none fit next = next held v
rule_decides p outward true false false Pass None to held v t go ahead back none fit next = next held v
rule_decides p outward true true true Pass None to held v t go ahead back none fit next = ended_passed p outward to (with_verdict true t) refl
rule_decides p outward true true false Pass None to held v t go ahead back none fit next =
    next to true ∙ ap (λ o. ahead (back o)) (ended_passed p outward to (with_verdict true t) refl)
rule_decides p outward true false true Block None to held v t go ahead back none fit next = next held v
rule_decides p outward true false false Block None to held v t go ahead back none fit next = next held v
rule_decides p outward true true true Block None to held v t go ahead back none fit next = ended_blocked p outward to (with_verdict false t) refl
rule_decides p outward true true false Block None to held v t go ahead back none fit next =
    next to false ∙ ap (λ o. ahead (back o)) (ended_blocked p outward to (with_verdict false t) refl)
rule_decides p outward true matches true Match None to held v t go ahead back none fit next = absurd (false≢true fit)
rule_decides p outward true matches false Match None (Some e) held v t go ahead back none fit next = absurd (false≢true (sym none))
rule_decides p outward true true false Match None None held v t go ahead back none fit next = next held v
rule_decides p outward true false false Match None None held v t go ahead back none fit next = next held v

-- all of them
filter_decides : (site : Site) (p : Packet) (tags : ℕ) (outward : Bool) (rs : List PfoRule) (t : Transit) → Untouched outward rs → list_all (rule_fits tags) rs ≡ true
    → (held : Option End) (v : Bool)
    → rules_walk site p outward rs held (with_verdict v t)
    ≡ quick_or site p outward rs t (slow_or site p outward rs t (ended p outward held (with_verdict v t)))
filter_decides site p tags outward [] t none fit held v = refl
filter_decides site p tags outward (r ∷ rs) t none fit held v =
    let both = or_parts (changes_sight outward r) (list_any (changes_sight outward) rs) none in
    let fits = and_parts (rule_fits tags r) (list_all (rule_fits tags) rs) fit in
    rule_decides p outward (is_met r.way outward) (holds r.cond (view_on site outward t)) r.quick r.kind r.tag r.to held v t (rules_walk site p outward rs)
    (quick_or site p outward rs t) (slow_or site p outward rs t) both.0 (fitting tags r fits.0).slow (filter_decides site p tags outward rs t both.1 fits.1)

-- What is said of packets

-- what becomes of a packet by what is said of it, or by what is behind
abbrev said_by : Packet → Bool → Transit → Option Transit → Said → Option Transit
said_by p outward t o unsaid = o
said_by p outward t o dropping = None
said_by p outward t o (passing to) = Some (moved p outward to t)

one_said : (b passes : Bool) (to : Option End) (p : Packet) (outward : Bool) (t : Transit) (o : Option Transit) (more : Said)
    → cond b (said_by p outward t o (said passes to)) (said_by p outward t o more) ≡ said_by p outward t o (cond b (said passes to) more)
one_said true passes to p outward t o more = refl
one_said false passes to p outward t o more = refl

-- by the rulings of rules, whatever they see
ruling_first : (p : Packet) (outward : Bool) (v : View) (kind : PfoKind) (test : List Lit) (to : Option End) (rest : List Ruling) (t : Transit) (o : Option Transit)
    → said_by p outward t o (first_said v (ruling_by kind test to ++ rest)) ≡ decided_by p outward to kind (holds test v) t (said_by p outward t o (first_said v rest))
ruling_first p outward v Pass test to rest t o = sym (one_said (holds test v) true to p outward t o (first_said v rest))
ruling_first p outward v Block test to rest t o = sym (one_said (holds test v) false to p outward t o (first_said v rest))
ruling_first p outward v Match test to rest t o = refl

deciding_first : (p : Packet) (outward : Bool) (v : View) (decides : Bool) (r : PfoRule) (rest : List Ruling) (t : Transit) (o : Option Transit)
    → said_by p outward (with_verdict true t) o (first_said v (deciding decides r ++ rest))
    ≡ choosing p outward decides (holds r.cond v) r.kind r.to t (said_by p outward (with_verdict true t) o (first_said v rest))
deciding_first p outward v false r rest t o = refl
deciding_first p outward v true r rest t o = ruling_first p outward v r.kind r.cond r.to rest (with_verdict true t) o

-- conditions of rules that fit hold of packets that are alike
quick_first : (site : Site) (p : Packet) (tags : ℕ) (outward : Bool) (rs : List PfoRule) (rest : List Ruling) (t u : Transit) → list_all (rule_fits tags) rs ≡ true → IsAlike tags t u
    → (o : Option Transit)
    → said_by p outward (with_verdict true t) o (first_said (view_on site outward u) (quick_rulings outward rs ++ rest))
    ≡ quick_or site p outward rs t (said_by p outward (with_verdict true t) o (first_said (view_on site outward u) rest))
quick_first site p tags outward [] rest t u fit h o = refl
quick_first site p tags outward (r ∷ rs) rest t u fit h o =
    let fits = and_parts (rule_fits tags r) (list_all (rule_fits tags) rs) fit in
    let v = view_on site outward u in
    let passed = with_verdict true t in
    let decides = decides_first outward r in
    let more = quick_rulings outward rs ++ rest in
    ap (λ l. said_by p outward passed o (first_said v l)) (append_assoc (deciding decides r) (quick_rulings outward rs) rest)
    ∙ deciding_first p outward v decides r more t o
    ∙ ap (λ b. choosing p outward decides b r.kind r.to t (said_by p outward passed o (first_said v more))) (holds_same tags r.cond (fitting tags r fits.0).test site outward t u h)
    ∙ ap (choosing p outward decides (holds r.cond (view_on site outward t)) r.kind r.to t) (quick_first site p tags outward rs rest t u fits.1 h o)

slow_first : (site : Site) (p : Packet) (tags : ℕ) (outward : Bool) (rs : List PfoRule) (rest : List Ruling) (t u : Transit) → list_all (rule_fits tags) rs ≡ true → IsAlike tags t u
    → (o : Option Transit)
    → said_by p outward (with_verdict true t) o (first_said (view_on site outward u) (slow_rulings outward rs ++ rest))
    ≡ slow_or site p outward rs t (said_by p outward (with_verdict true t) o (first_said (view_on site outward u) rest))
slow_first site p tags outward [] rest t u fit h o = refl
slow_first site p tags outward (r ∷ rs) rest t u fit h o =
    let fits = and_parts (rule_fits tags r) (list_all (rule_fits tags) rs) fit in
    let v = view_on site outward u in
    let passed = with_verdict true t in
    let decides = decides_last outward r in
    let behind = said_by p outward passed o (first_said v rest) in
    ap (λ l. said_by p outward passed o (first_said v l)) (append_assoc (slow_rulings outward rs) (deciding decides r) rest)
    ∙ slow_first site p tags outward rs (deciding decides r ++ rest) t u fits.1 h o
    ∙ ap (slow_or site p outward rs t)
    (deciding_first p outward v decides r rest t o
    ∙ ap (λ b. choosing p outward decides b r.kind r.to t behind) (holds_same tags r.cond (fitting tags r fits.0).test site outward t u h))

-- Rules of rulings

-- those of one, at a place behind which other rules decide so
ruling_walk : (outward : Bool) (w : Course New outward) (tags at : ℕ) (test : List Lit) (passes : Bool) (to : Option End)
    → Stands w at (acting at test (decision outward to passes)) → (t u : Transit) → IsAlike tags t u → (x o : Option Transit)
    → Agree tags o (stage_end (run w (at + length (acting at test (decision outward to passes))) u))
    → Agree tags (cond (holds test (view_on w.site outward u)) (said_by w.p outward (with_verdict true t) x (said passes to)) o) (stage_end (run w at u))
ruling_walk outward w tags at test true to s t u h x o next =
    let past = at + length (acting at test (decision outward to true)) in
    let b = holds test (view_on w.site outward u) in
    subst (λ y. Agree tags (cond b (Some (moved w.p outward to (with_verdict true t))) o) y)
    (sym (ap stage_end (acting_accepts w at test (writing outward to) (writing_changes outward to) s u
    ∙ ap (λ y. cond b (Accepted y) (run w past u)) (writing_done w.p outward to u)) ∙ end_by b (Accepted (moved w.p outward to u)) (run w past u)))
    (agree_by tags b b refl _ o _ (stage_end (run w past u)) (moved_alike tags w.p outward to (with_verdict true t) u (verdict_alike tags true t u h)) next)
ruling_walk outward w tags at test false to s t u h x o next =
    let b = holds test (view_on w.site outward u) in
    subst (λ y. Agree tags (cond b None o) y)
    (sym (ap stage_end (acting_drops w at test s u) ∙ end_by b Dropped (run w (at + 1) u)))
    (agree_by tags b b refl None o None (stage_end (run w (at + 1) u)) tt next)

-- those of all
rulings_walk : (outward : Bool) (w : Course New outward) (tags at : ℕ) (all : List Ruling) → Stands w at (tail_rules outward at all) → (t u : Transit) → IsAlike tags t u
    → (o : Option Transit) → Agree tags o (stage_end (run w (at + length (tail_rules outward at all)) u))
    → Agree tags (said_by w.p outward (with_verdict true t) o (first_said (view_on w.site outward u) all)) (stage_end (run w at u))
rulings_walk outward w tags at [] s t u h o next =
    let same : at + 0 ≡ at = omega arith in
    subst (λ n. Agree tags o (stage_end (run w n u))) same next
rulings_walk outward w tags at (one ∷ all) s t u h o next =
    let v = view_on w.site outward u in
    let passed = with_verdict true t in
    let here = ruling_rules outward at one in
    let place = at + length here in
    let more = tail_rules outward place all in
    let parts = w.law.parts place here more s refl in
    let many : length (here ++ more) ≡ length here + length more = length-append here more in
    let same : at + length (here ++ more) ≡ place + length more = omega (arith, many) in
    let rest = rulings_walk outward w tags place all parts.1 t u h o (subst (λ n. Agree tags o (stage_end (run w n u))) same next) in
    subst (λ x. Agree tags x (stage_end (run w at u))) (one_said (holds one.cond v) one.passes one.to w.p outward passed o (first_said v all))
    (ruling_walk outward w tags at one.cond one.passes one.to parts.0 t u h o (said_by w.p outward passed o (first_said v all)) rest)

-- the tail, behind which what is held decides
pub tail_walk : (outward : Bool) (w : Course New outward) (tags at : ℕ) (rs : List PfoRule) (tail : List Ruling) → list_all (rule_fits tags) rs ≡ true → Untouched outward rs
    → StandFor tail (tail_rulings outward rs) → Stands w at (tail_rules outward at tail) → (held : Option End) (t u : Transit) → IsAlike tags t u
    → Agree tags (ended w.p outward held t) (stage_end (run w (at + length (tail_rules outward at tail)) u))
    → Agree tags (rules_walk w.site w.p outward rs held t) (stage_end (run w at u))
tail_walk outward w tags at rs tail fit none stands s held t u h next =
    let v = view_on w.site outward u in
    let passed = with_verdict true t in
    let o = ended w.p outward held t in
    let slow = slow_rulings outward rs in
    let same : said_by w.p outward passed o (first_said v tail) ≡ rules_walk w.site w.p outward rs held t =
    ap (said_by w.p outward passed o) (stands v)
    ∙ quick_first w.site w.p tags outward rs slow t u fit h o
    ∙ ap (quick_or w.site w.p outward rs t)
    (ap (λ l. said_by w.p outward passed o (first_said v l)) (sym (append-nil slow)) ∙ slow_first w.site w.p tags outward rs [] t u fit h o)
    ∙ sym (filter_decides w.site w.p tags outward rs t none fit held t.verdict) in
    subst (λ x. Agree tags x (stage_end (run w at u))) same (rulings_walk outward w tags at tail s t u h o next)
