-- What conditions see of two classes with one view.
use Rattle.std.proofs.Common.{◌≡◌, ℕ, ◌+◌, Bool, true, false, cond, ◌&&◌, ◌||◌, not, Option, Some, None, IfSome, List, [], ◌∷◌, refl, sym, ◌∙◌, ap, subst}
use Rattle.std.specs.List.{list_all}
use Rattle.std.proofs.lemmas.Bool.{and_parts, false≢true}
use Rattle.fws_iv.specs.declared.iv.Iv.{Iv}
use Rattle.fws_iv.specs.Ivs.{has}
use Rattle.fws_box.specs.declared.field.Field.TheVariants as fields
use Rattle.fws_box.specs.Fields.{value_of}
use Rattle.fws_net.specs.declared.condition.Lit.{Lit}
use Rattle.fws_net.specs.declared.condition.Test.{Test}
use Rattle.fws_net.specs.declared.condition.Test.TheVariants as tests
use Rattle.fws_net.specs.declared.connection.Kind.{Kind}
use Rattle.fws_net.specs.declared.outcome.End.{End}
use Rattle.fws_net.specs.declared.site.Site.{Site}
use Rattle.fws_net.specs.Conditions.{is_shown, test_holds, lit_holds, holds}
use Rattle.fws_net.specs.Fates.{has_ports}
use Rattle.fws_net.specs.Points.{packet_of}
use Rattle.fws_net.specs.Routes.{exit_at}
use Rattle.fws_net.specs.Showing.{out_of, receiving}
use Rattle.fws_flat.specs.declared.code.Part.{Part}
use Rattle.fws_flat.specs.declared.code.Ins.{Ins}
use Rattle.fws_flat.specs.Walk.{sees}
use Rattle.fws_box_conditions.specs.Scenes.{standing_addr, standing_port}
use Rattle.fws_exec.specs.declared.groups.Group.{Group}
use Rattle.fws_exec.specs.declared.progress.Progress.{Progress}
use Rattle.fws_exec.specs.declared.spot.Class.{Class}
use Rattle.fws_exec.specs.declared.views.Sides.{Sides}
use Rattle.fws_exec.specs.Classes.{standing_by, transit_of}
use Rattle.fws_exec.specs.Goings.{label_of}
use Rattle.fws_exec.specs.Runs.{numbered, picked}
use Rattle.fws_exec.specs.Sheets.{among, IsUsed}
use Rattle.fws_exec.specs.Views.{is_of_src, is_of_dst, shows, shows_all, shows_code, end_if, seen_by, fits_tag, tags_fit, is_tag, is_tagless, AreAlike, AllFit}
use Rattle.fws_exec.proofs.Moved.{same_used}

-- an end that is looked at stands alike
standing_alike : (looked s t : Bool) (d e : Option End) → looked ≡ true → end_if looked d ≡ end_if looked e → (looked && s) ≡ (looked && t) → standing_by s d ≡ standing_by t e
standing_alike true s t d e is ends tracked = ap (λ k. standing_by k d) tracked ∙ ap (λ k. standing_by t k) ends
standing_alike false s t d e is ends tracked = absurd (false≢true is)

-- a literal by its test
by_test : (negated a b : Bool) → a ≡ b → cond negated (not a) a ≡ cond negated (not b) b
by_test negated a b e = ap (λ k. cond negated (not k) k) e

-- a literal holds alike for both
lit_alike : (site : Site) (kind : Kind) (part : Part) (p : List ℕ) (g h : Progress) (sides : Sides) (m n : ℕ) → seen_by g sides m ≡ seen_by h sides n → (negated : Bool) (test : Test)
    → shows sides test ≡ true → fits_tag g.tags negated test ≡ true → fits_tag h.tags negated test ≡ true
    → lit_holds (sees site kind part (transit_of g p)) (record { not = negated; test = test }) ≡ lit_holds (sees site kind part (transit_of h p)) (record { not = negated; test = test })
lit_alike site kind part p g h sides m n same negated (tests.Src set) is a b = by_test negated _ _ (ap (λ s. has set (standing_addr s (value_of p fields.Src) (value_of p fields.SentSrc))) (standing_alike sides.src g.src_tracked h.src_tracked g.wrote.src h.wrote.src is (ap (λ v. v.wrote.src) same) (ap (λ v. v.src_tracked) same)))
lit_alike site kind part p g h sides m n same negated (tests.Sport set) is a b = by_test negated _ _ (ap (λ s. has_ports (packet_of p).proto && has set (standing_port s (value_of p fields.Proto) (value_of p fields.Sport) (value_of p fields.SentSport))) (standing_alike sides.src g.src_tracked h.src_tracked g.wrote.src h.wrote.src is (ap (λ v. v.wrote.src) same) (ap (λ v. v.src_tracked) same)))
lit_alike site kind part p g h sides m n same negated (tests.Dst set) is a b = by_test negated _ _ (ap (λ s. has set (standing_addr s (value_of p fields.Dst) (value_of p fields.SentDst))) (standing_alike sides.dst g.dst_tracked h.dst_tracked g.wrote.dst h.wrote.dst is (ap (λ v. v.wrote.dst) same) (ap (λ v. v.dst_tracked) same)))
lit_alike site kind part p g h sides m n same negated (tests.Dport set) is a b = by_test negated _ _ (ap (λ s. has_ports (packet_of p).proto && has set (standing_port s (value_of p fields.Proto) (value_of p fields.Dport) (value_of p fields.SentDport))) (standing_alike sides.dst g.dst_tracked h.dst_tracked g.wrote.dst h.wrote.dst is (ap (λ v. v.wrote.dst) same) (ap (λ v. v.dst_tracked) same)))
lit_alike site kind part p g h sides m n same negated (tests.Xmit set) is a b = by_test negated _ _ (ap (λ s. is_shown (cond part.shows_xmit (out_of (exit_at site (packet_of p).entry (standing_addr s (value_of p fields.Dst) (value_of p fields.SentDst)))) None) set) (standing_alike sides.dst g.dst_tracked h.dst_tracked g.wrote.dst h.wrote.dst is (ap (λ v. v.wrote.dst) same) (ap (λ v. v.dst_tracked) same)))
lit_alike site kind part p g h sides m n same negated (tests.Via set) is a b = by_test negated _ _ (ap (λ s. is_shown (cond part.outward (cond part.shows_xmit (out_of (exit_at site (packet_of p).entry (standing_addr s (value_of p fields.Dst) (value_of p fields.SentDst)))) None) (cond part.shows_recv (receiving (packet_of p)) None)) set) (standing_alike sides.dst g.dst_tracked h.dst_tracked g.wrote.dst h.wrote.dst is (ap (λ v. v.wrote.dst) same) (ap (λ v. v.dst_tracked) same)))
lit_alike site kind part p g h sides m n same negated (tests.Tag k) is a b = a ∙ sym b
lit_alike site kind part p g h sides m n same negated (tests.Proto set) is a b = refl
lit_alike site kind part p g h sides m n same negated (tests.Icmp set) is a b = refl
lit_alike site kind part p g h sides m n same negated (tests.Flags mask want) is a b = refl
lit_alike site kind part p g h sides m n same negated (tests.AnyFlag mask) is a b = refl
lit_alike site kind part p g h sides m n same negated (tests.Recv set) is a b = refl
lit_alike site kind part p g h sides m n same negated tests.Outward is a b = refl
lit_alike site kind part p g h sides m n same negated tests.Est is a b = refl
lit_alike site kind part p g h sides m n same negated tests.Never is a b = refl

both_same : (a b c d : Bool) → a ≡ b → c ≡ d → (a && c) ≡ (b && d)
both_same a b c d e f = ap (λ k. k && c) e ∙ ap (λ k. b && k) f

-- a condition holds alike for both, if it fails for neither by its tags
pub alike_holds : (site : Site) (kind : Kind) (part : Part) (p : List ℕ) (g h : Progress) (sides : Sides) (m n : ℕ) → seen_by g sides m ≡ seen_by h sides n → (lits : List Lit)
    → shows_all sides lits ≡ true → tags_fit g.tags lits ≡ true → tags_fit h.tags lits ≡ true
    → holds lits (sees site kind part (transit_of g p)) ≡ holds lits (sees site kind part (transit_of h p))
alike_holds site kind part p g h sides m n same [] is a b = refl
alike_holds site kind part p g h sides m n same (lit ∷ lits) is a b =
    let shown = and_parts (shows sides lit.test) (shows_all sides lits) is in
    let one = and_parts (fits_tag g.tags lit.not lit.test) (tags_fit g.tags lits) a in
    let other = and_parts (fits_tag h.tags lit.not lit.test) (tags_fit h.tags lits) b in
    both_same (lit_holds (sees site kind part (transit_of g p)) lit) (lit_holds (sees site kind part (transit_of h p)) lit) (holds lits (sees site kind part (transit_of g p))) (holds lits (sees site kind part (transit_of h p)))
    (lit_alike site kind part p g h sides m n same lit.not lit.test shown.0 one.0 other.0)
    (alike_holds site kind part p g h sides m n same lits shown.1 one.1 other.1)

-- without tests of tags, any tags fit
tag_less : (tags : List ℕ) (negated : Bool) (test : Test) → not (is_tag test) ≡ true → fits_tag tags negated test ≡ true
tag_less tags negated (tests.Src set) h = refl
tag_less tags negated (tests.Sport set) h = refl
tag_less tags negated (tests.Dst set) h = refl
tag_less tags negated (tests.Dport set) h = refl
tag_less tags negated (tests.Xmit set) h = refl
tag_less tags negated (tests.Via set) h = refl
tag_less tags negated (tests.Tag k) h = absurd (false≢true h)
tag_less tags negated (tests.Proto set) h = refl
tag_less tags negated (tests.Icmp set) h = refl
tag_less tags negated (tests.Flags mask want) h = refl
tag_less tags negated (tests.AnyFlag mask) h = refl
tag_less tags negated (tests.Recv set) h = refl
tag_less tags negated tests.Outward h = refl
tag_less tags negated tests.Est h = refl
tag_less tags negated tests.Never h = refl

pub both_true : (a b : Bool) → a ≡ true → b ≡ true → (a && b) ≡ true
both_true a b e f = ap (λ k. k && b) e ∙ f

tagless_fit : (tags : List ℕ) (lits : List Lit) → is_tagless lits ≡ true → tags_fit tags lits ≡ true
tagless_fit tags [] h = refl
tagless_fit tags (lit ∷ lits) h =
    let parts = and_parts (not (is_tag lit.test)) (is_tagless lits) h in
    both_true (fits_tag tags lit.not lit.test) (tags_fit tags lits) (tag_less tags lit.not lit.test parts.0) (tagless_fit tags lits parts.1)

-- the instructions of a run pick the same label for both
pub alike_picked : (site : Site) (kind : Kind) (part : Part) (p : List ℕ) (g h : Progress) (sides : Sides) (m n : ℕ) → seen_by g sides m ≡ seen_by h sides n → (place : ℕ) (code : List Ins)
    → shows_code sides code ≡ true → list_all (λ ins. is_tagless ins.cond) code ≡ true
    → picked place (sees site kind part (transit_of g p)) code ≡ picked place (sees site kind part (transit_of h p)) code
alike_picked site kind part p g h sides m n same place [] is less = refl
alike_picked site kind part p g h sides m n same place (ins ∷ code) is less =
    let shown = and_parts (shows_all sides ins.cond) (shows_code sides code) is in
    let free = and_parts (is_tagless ins.cond) (list_all (λ i. is_tagless i.cond) code) less in
    ap (λ b. cond b (label_of place ins.act) (picked place (sees site kind part (transit_of g p)) code)) (alike_holds site kind part p g h sides m n same ins.cond shown.0 (tagless_fit g.tags ins.cond free.0) (tagless_fit h.tags ins.cond free.0))
    ∙ ap (λ k. cond (holds ins.cond (sees site kind part (transit_of h p))) (label_of place ins.act) k) (alike_picked site kind part p g h sides m n same place code shown.1 free.1)

-- and the same number
pub alike_numbered : (site : Site) (kind : Kind) (part : Part) (p : List ℕ) (g h : Progress) (sides : Sides) (m n : ℕ) → seen_by g sides m ≡ seen_by h sides n → (first : ℕ) (code : List Ins)
    → shows_code sides code ≡ true → list_all (λ ins. is_tagless ins.cond) code ≡ true
    → numbered first (sees site kind part (transit_of g p)) code ≡ numbered first (sees site kind part (transit_of h p)) code
alike_numbered site kind part p g h sides m n same first [] is less = refl
alike_numbered site kind part p g h sides m n same first (ins ∷ code) is less =
    let shown = and_parts (shows_all sides ins.cond) (shows_code sides code) is in
    let free = and_parts (is_tagless ins.cond) (list_all (λ i. is_tagless i.cond) code) less in
    ap (λ b. cond b first (numbered (first + 1) (sees site kind part (transit_of g p)) code)) (alike_holds site kind part p g h sides m n same ins.cond shown.0 (tagless_fit g.tags ins.cond free.0) (tagless_fit h.tags ins.cond free.0))
    ∙ ap (λ k. cond (holds ins.cond (sees site kind part (transit_of h p))) first k) (alike_numbered site kind part p g h sides m n same (first + 1) code shown.1 free.1)

-- two classes of a group have one view
pub views : (sides : Sides) (classes : List Class) (group : Group) → AreAlike sides classes group
    → (m n : ℕ) (f d : Class) → among group.numbers.items m ≡ true → among group.numbers.items n ≡ true → IsUsed classes m f → IsUsed classes n d
    → seen_by f.progress sides m ≡ seen_by d.progress sides n
views sides classes group alike m n f d a b uf ud =
    let one = alike m a in
    let other = alike n b in
    ap (λ (k : Class). seen_by k.progress sides m) (same_used classes m f one.0 uf one.1) ∙ one.2 ∙ sym (ap (λ (k : Class). seen_by k.progress sides n) (same_used classes n d other.0 ud other.1) ∙ other.2)

-- a condition holds alike for the classes of a group
pub group_holds : (sides : Sides) (classes : List Class) (group : Group) (lits : List Lit) → AreAlike sides classes group → AllFit classes lits group → shows_all sides lits ≡ true
    → (m n : ℕ) (f d : Class) → among group.numbers.items m ≡ true → among group.numbers.items n ≡ true → IsUsed classes m f → IsUsed classes n d
    → (site : Site) (kind : Kind) (part : Part) (p : List ℕ) → holds lits (sees site kind part (transit_of f.progress p)) ≡ holds lits (sees site kind part (transit_of d.progress p))
group_holds sides classes group lits alike fit shown m n f d a b uf ud site kind part p =
    alike_holds site kind part p f.progress d.progress sides m n (views sides classes group alike m n f d a b uf ud) lits shown (fit m f a uf) (fit n d b ud)

-- so the instructions of a run pick the same label
pub group_picked : (sides : Sides) (classes : List Class) (group : Group) (place : ℕ) (code : List Ins) → AreAlike sides classes group → shows_code sides code ≡ true → list_all (λ ins. is_tagless ins.cond) code ≡ true
    → (m n : ℕ) (f d : Class) → among group.numbers.items m ≡ true → among group.numbers.items n ≡ true → IsUsed classes m f → IsUsed classes n d
    → (site : Site) (kind : Kind) (part : Part) (p : List ℕ) → picked place (sees site kind part (transit_of f.progress p)) code ≡ picked place (sees site kind part (transit_of d.progress p)) code
group_picked sides classes group place code alike shown less m n f d a b uf ud site kind part p =
    alike_picked site kind part p f.progress d.progress sides m n (views sides classes group alike m n f d a b uf ud) place code shown less

-- and the same number
pub group_numbered : (sides : Sides) (classes : List Class) (group : Group) (first : ℕ) (code : List Ins) → AreAlike sides classes group → shows_code sides code ≡ true → list_all (λ ins. is_tagless ins.cond) code ≡ true
    → (m n : ℕ) (f d : Class) → among group.numbers.items m ≡ true → among group.numbers.items n ≡ true → IsUsed classes m f → IsUsed classes n d
    → (site : Site) (kind : Kind) (part : Part) (p : List ℕ) → numbered first (sees site kind part (transit_of f.progress p)) code ≡ numbered first (sees site kind part (transit_of d.progress p)) code
group_numbered sides classes group first code alike shown less m n f d a b uf ud site kind part p =
    alike_numbered site kind part p f.progress d.progress sides m n (views sides classes group alike m n f d a b uf ud) first code shown less

or_true : (a : Bool) → (a || true) ≡ true
or_true true = refl
or_true false = refl

-- one more test is shown
pub shown_or : (sides : Sides) (test : Test) → shows (record { src = sides.src || is_of_src test; dst = sides.dst || is_of_dst test }) test ≡ true
shown_or sides (tests.Src set) = or_true sides.src
shown_or sides (tests.Sport set) = or_true sides.src
shown_or sides (tests.Dst set) = or_true sides.dst
shown_or sides (tests.Dport set) = or_true sides.dst
shown_or sides (tests.Xmit set) = or_true sides.dst
shown_or sides (tests.Via set) = or_true sides.dst
shown_or sides (tests.Tag k) = refl
shown_or sides (tests.Proto set) = refl
shown_or sides (tests.Icmp set) = refl
shown_or sides (tests.Flags mask want) = refl
shown_or sides (tests.AnyFlag mask) = refl
shown_or sides (tests.Recv set) = refl
shown_or sides tests.Outward = refl
shown_or sides tests.Est = refl
shown_or sides tests.Never = refl

-- what was shown stays so
shows_or : (sides : Sides) (a b : Bool) (test : Test) → shows sides test ≡ true → shows (record { src = sides.src || a; dst = sides.dst || b }) test ≡ true
shows_or sides a b (tests.Src set) h = ap (λ k. k || a) h
shows_or sides a b (tests.Sport set) h = ap (λ k. k || a) h
shows_or sides a b (tests.Dst set) h = ap (λ k. k || b) h
shows_or sides a b (tests.Dport set) h = ap (λ k. k || b) h
shows_or sides a b (tests.Xmit set) h = ap (λ k. k || b) h
shows_or sides a b (tests.Via set) h = ap (λ k. k || b) h
shows_or sides a b (tests.Tag k) h = refl
shows_or sides a b (tests.Proto set) h = refl
shows_or sides a b (tests.Icmp set) h = refl
shows_or sides a b (tests.Flags mask want) h = refl
shows_or sides a b (tests.AnyFlag mask) h = refl
shows_or sides a b (tests.Recv set) h = refl
shows_or sides a b tests.Outward h = refl
shows_or sides a b tests.Est h = refl
shows_or sides a b tests.Never h = refl

pub shows_more : (sides : Sides) (a b : Bool) (lits : List Lit) → shows_all sides lits ≡ true → shows_all (record { src = sides.src || a; dst = sides.dst || b }) lits ≡ true
shows_more sides a b [] h = refl
shows_more sides a b (lit ∷ lits) h =
    let parts = and_parts (shows sides lit.test) (shows_all sides lits) h in
    both_true (shows (record { src = sides.src || a; dst = sides.dst || b }) lit.test) (shows_all (record { src = sides.src || a; dst = sides.dst || b }) lits) (shows_or sides a b lit.test parts.0) (shows_more sides a b lits parts.1)

-- a literal whose test is of an address that stands for sure
by_not : (n b : Bool) → b ≡ n → cond n (not b) b ≡ false
by_not true b e = ap not e
by_not false b e = e

pub never_src : (g : Progress) (lit : Lit) (set : List Iv) (addr : Option ℕ) → lit.test ≡ tests.Src set → ((a : ℕ) × (addr ≡ Some a) × (has set a ≡ lit.not)) → IfSome addr (λ a. (x : ℕ) (r : ℕ) → standing_addr (standing_by g.src_tracked g.wrote.src) x r ≡ a)
    → (site : Site) (kind : Kind) (part : Part) (p : List ℕ) → lit_holds (sees site kind part (transit_of g p)) lit ≡ false
never_src g lit set addr is at whole site kind part p =
    ap (λ t. cond lit.not (not (test_holds (sees site kind part (transit_of g p)) t)) (test_holds (sees site kind part (transit_of g p)) t)) is
    ∙ by_not lit.not (has set (standing_addr (standing_by g.src_tracked g.wrote.src) (value_of p fields.Src) (value_of p fields.SentSrc)))
    (ap (λ k. has set k) (subst (λ (o : Option ℕ). IfSome o (λ a. (x : ℕ) (r : ℕ) → standing_addr (standing_by g.src_tracked g.wrote.src) x r ≡ a)) at.1 whole (value_of p fields.Src) (value_of p fields.SentSrc)) ∙ at.2)

pub never_dst : (g : Progress) (lit : Lit) (set : List Iv) (addr : Option ℕ) → lit.test ≡ tests.Dst set → ((a : ℕ) × (addr ≡ Some a) × (has set a ≡ lit.not)) → IfSome addr (λ a. (x : ℕ) (r : ℕ) → standing_addr (standing_by g.dst_tracked g.wrote.dst) x r ≡ a)
    → (site : Site) (kind : Kind) (part : Part) (p : List ℕ) → lit_holds (sees site kind part (transit_of g p)) lit ≡ false
never_dst g lit set addr is at whole site kind part p =
    ap (λ t. cond lit.not (not (test_holds (sees site kind part (transit_of g p)) t)) (test_holds (sees site kind part (transit_of g p)) t)) is
    ∙ by_not lit.not (has set (standing_addr (standing_by g.dst_tracked g.wrote.dst) (value_of p fields.Dst) (value_of p fields.SentDst)))
    (ap (λ k. has set k) (subst (λ (o : Option ℕ). IfSome o (λ a. (x : ℕ) (r : ℕ) → standing_addr (standing_by g.dst_tracked g.wrote.dst) x r ≡ a)) at.1 whole (value_of p fields.Dst) (value_of p fields.SentDst)) ∙ at.2)

-- what is shown of each condition is shown of code
pub code_kept : (a b : Sides) (code : List Ins) → ((lits : List Lit) → shows_all a lits ≡ true → shows_all b lits ≡ true) → shows_code a code ≡ true → shows_code b code ≡ true
code_kept a b [] kept h = refl
code_kept a b (ins ∷ code) kept h =
    let parts = and_parts (shows_all a ins.cond) (shows_code a code) h in
    both_true (shows_all b ins.cond) (shows_code b code) (kept ins.cond parts.0) (code_kept a b code kept parts.1)
