-- The rules of rules walk as these do.
use Rattle.std.proofs.Common.{◌≡◌, ℕ, ◌+◌, ◌^◌, ◌<◌, Bool, true, false, cond, ◌&&◌, ◌||◌, not, Option, Some, None, is_some, IfSome, List, [], ◌∷◌, ◌++◌, length, take, drop, arith, refl, sym, ap, ◌∙◌, subst, length-append, take-append-drop}
use Rattle.std.proofs.lemmas.Bool.{false≢true, and_parts}
use Rattle.std.proofs.lemmas.List.Folds.{list_all-append}
use Rattle.std.specs.List.{list_all, list_any}
use Rattle.fws_net.specs.declared.condition.Lit.{Lit}
use Rattle.fws_net.specs.declared.connection.Kind.TheVariants.{New}
use Rattle.fws_net.specs.declared.outcome.End.{End}
use Rattle.fws_net.specs.declared.transit.Transit.{Transit}
use Rattle.fws_net.specs.Conditions.{holds}
use Rattle.fws_net.specs.Transits.{with_verdict}
use Rattle.fws_ifcl.specs.declared.diagram.Act.{Act}
use Rattle.fws_ifcl.specs.declared.step.ChainEnd.TheVariants.{Accepted, Dropped}
use Rattle.fws_ifcl.specs.Walk.{stage_end}
use Rattle.fws_ifcl_rules.specs.Places.{run, Stands}
use Rattle.fws_pf.specs.Soundness.{cond_fits, tag_fits}
use Rattle.fws_pf.specs.Walk.{view_on, tagged, is_met}
use Rattle.fws_pfo.specs.declared.config.PfoKind.{PfoKind}
use Rattle.fws_pfo.specs.declared.config.PfoKind.TheVariants.{Pass, Block, Match}
use Rattle.fws_pfo.specs.declared.config.PfoRule.{PfoRule}
use Rattle.fws_pfo.specs.Soundness.{decides_nothing, rule_fits}
use Rattle.fws_pfo.specs.Walk.{moved, acted_by, held_by, ended, rules_walk}
use Rattle.fws_pfo_ifcl.specs.declared.frame.Frame.{Frame}
use Rattle.fws_pfo_ifcl.specs.declared.ruling.Ruling.{Ruling}
use Rattle.fws_pfo_ifcl.specs.Blocks.{acting, only_tag, holding, writing, tagging, changes, ending, met_rule, met_rules, IsTail, tail_place, tail_rules, held_rules, head_of, tail_of, ahead_rules, filter_rules}
use Rattle.fws_pfo_ifcl.specs.Ends.{same_end, end_held, end_of, with_end, gathered}
use Rattle.fws_pfo_ifcl.proofs.Acts.{done, done_append, are_changes, changes_append, acting_walk, acting_accepts, acting_drops}
use Rattle.fws_pfo_ifcl.proofs.Courses.{Course}
use Rattle.fws_pfo_ifcl.proofs.Deciding.{fitting, tail_untouched, tail_walk}
use Rattle.fws_pfo_ifcl.proofs.Among.{first_among}
use Rattle.fws_pfo_ifcl.proofs.HeldWalk.{held_walk}
use Rattle.fws_pfo_ifcl.proofs.Shown.{Agree, agree_by, end_by, holds_same, tagged_alike, verdict_alike, moved_alike, writing_done, only_done, writing_changes, only_changes, holding_changes, tagging_changes, ended_passed, ended_blocked, Shows, IsAmong, shows_more, passed, blocked, renamed, rewrote}

-- Rules that aren't quick

-- what they do are changes
pub all_changes : (f : Frame) (may : Bool) (tag : Option ℕ) (to : Option End) (kind : PfoKind) → are_changes (changes f may tag to kind) ≡ true
all_changes f may tag to Pass = changes_append (only_tag tag) (holding f to) (only_changes tag) (holding_changes f to)
all_changes f may tag to Block = changes_append (only_tag tag) (holding f None) (only_changes tag) (holding_changes f None)
all_changes f may tag to Match = changes_append (tagging f may tag) (writing f.outward to) (tagging_changes f may tag) (writing_changes f.outward to)

-- behind one that matches
module _ (f : Frame) (w : Course New f.outward) where
  held_behind_one : (may : Bool) (tag : Option ℕ) (to held : Option End) (kind : PfoKind) (t u : Transit) → tag_fits f.tags tag ≡ true → IsAmong f (end_held kind to)
      → Shows f may held t u
      → Shows f (may || is_some (end_held kind to)) (held_by to kind held) (acted_by w.p f.outward to kind (tagged tag t)) (done w.p (changes f may tag to kind) u)
  held_behind_one may tag to held Pass t u fit among h = passed w.p f may tag to t u h.alike among
  held_behind_one may tag to held Block t u fit among h =
      shows_more f may false to (with_verdict false (tagged tag t)) (done w.p (changes f may tag to Block) u) (blocked w.p f may tag to t u h.alike)
  held_behind_one may tag to held Match t u fit among h =
      subst (λ x. Shows f (may || false) held (moved w.p f.outward to (tagged tag t)) x) (sym (done_append w.p (tagging f may tag) (writing f.outward to) u))
      (shows_more f may false held (moved w.p f.outward to (tagged tag t)) (done w.p (writing f.outward to) (done w.p (tagging f may tag) u))
      (rewrote w.p f may held f.outward to (tagged tag t) (done w.p (tagging f may tag) u) (renamed w.p f may tag held t u fit h)))

  -- One rule

  abbrev acts_by : Bool → Bool → Option ℕ → Option End → PfoKind → List Act
  acts_by may quick tag to kind = cond quick (ending f tag to kind) (changes f may tag to kind)

  abbrev end_by_parts : Bool → Bool → PfoKind → Option End → Option End
  end_by_parts met quick kind to = cond (met && not quick) (end_held kind to) None

  -- where it is met and matches
  abbrev matched : Bool → PfoKind → Option ℕ → Option End → (Option End → Transit → Option Transit) → Option End → Transit → Option Transit
  matched quick kind tag to go held t =
      cond quick (ended w.p f.outward (held_by to kind held) (acted_by w.p f.outward to kind (tagged tag t)))
      (go (held_by to kind held) (acted_by w.p f.outward to kind (tagged tag t)))

  -- how rules go on behind it, from a place on
  abbrev GoesOn : Bool → ℕ → (Option End → Transit → Option Transit) → Type 0
  GoesOn may at go = (held : Option End) (t u : Transit) → Shows f may held t u → Agree f.tags (go held t) (stage_end (run w at u))

  quick_step : (at : ℕ) (may : Bool) (kind : PfoKind) (tag : Option ℕ) (to : Option End) (test : List Lit) (go : Option End → Transit → Option Transit)
      → cond_fits f.tags test ≡ true → not (decides_nothing kind) ≡ true → Stands w at (acting at test (ending f tag to kind))
      → GoesOn (may || false) (at + length (acting at test (ending f tag to kind))) go → (held : Option End) (t u : Transit) → Shows f may held t u
      → Agree f.tags (cond (holds test (view_on w.site f.outward t)) (ended w.p f.outward (held_by to kind held) (acted_by w.p f.outward to kind (tagged tag t))) (go held t))
      (stage_end (run w at u))
  quick_step at may Pass tag to test go fit slow s next held t u h =
      let list = only_tag tag ++ writing f.outward to in
      let past = at + length (acting at test (ending f tag to Pass)) in
      let b = holds test (view_on w.site f.outward t) in
      let d = holds test (view_on w.site f.outward u) in
      let after = moved w.p f.outward to (tagged tag u) in
      let same : done w.p list u ≡ after =
      done_append w.p (only_tag tag) (writing f.outward to) u ∙ ap (done w.p (writing f.outward to)) (only_done w.p tag u) ∙ writing_done w.p f.outward to (tagged tag u) in
      let result = ended w.p f.outward to (with_verdict true (tagged tag t)) in
      subst (λ x. Agree f.tags (cond b result (go held t)) x)
      (sym (ap stage_end (acting_accepts w at test list (changes_append (only_tag tag) (writing f.outward to) (only_changes tag) (writing_changes f.outward to)) s u
      ∙ ap (λ y. cond d (Accepted y) (run w past u)) same) ∙ end_by d (Accepted after) (run w past u)))
      (agree_by f.tags b d (holds_same f.tags test fit w.site f.outward t u h.alike) result (go held t) (Some after) (stage_end (run w past u))
      (subst (λ x. Agree f.tags x (Some after)) (sym (ended_passed w.p f.outward to (with_verdict true (tagged tag t)) refl))
      (moved_alike f.tags w.p f.outward to (with_verdict true (tagged tag t)) (tagged tag u)
      (verdict_alike f.tags true (tagged tag t) (tagged tag u) (tagged_alike f.tags tag t u h.alike))))
      (next held t u (shows_more f may false held t u h)))
  quick_step at may Block tag to test go fit slow s next held t u h =
      let past = at + 1 in
      let b = holds test (view_on w.site f.outward t) in
      let d = holds test (view_on w.site f.outward u) in
      let result = ended w.p f.outward to (with_verdict false (tagged tag t)) in
      subst (λ x. Agree f.tags (cond b result (go held t)) x)
      (sym (ap stage_end (acting_drops w at test s u) ∙ end_by d Dropped (run w past u)))
      (agree_by f.tags b d (holds_same f.tags test fit w.site f.outward t u h.alike) result (go held t) None (stage_end (run w past u))
      (subst (λ x. Agree f.tags x None) (sym (ended_blocked w.p f.outward to (with_verdict false (tagged tag t)) refl)) tt)
      (next held t u (shows_more f may false held t u h)))
  quick_step at may Match tag to test go fit slow s next held t u h = absurd (false≢true slow)

  slow_step : (at : ℕ) (may : Bool) (kind : PfoKind) (tag : Option ℕ) (to : Option End) (test : List Lit) (go : Option End → Transit → Option Transit)
      → cond_fits f.tags test ≡ true → tag_fits f.tags tag ≡ true → IsAmong f (end_held kind to) → Stands w at (acting at test (changes f may tag to kind))
      → GoesOn (may || is_some (end_held kind to)) (at + length (acting at test (changes f may tag to kind))) go → (held : Option End) (t u : Transit) → Shows f may held t u
      → Agree f.tags (cond (holds test (view_on w.site f.outward t)) (go (held_by to kind held) (acted_by w.p f.outward to kind (tagged tag t))) (go held t))
      (stage_end (run w at u))
  slow_step at may kind tag to test go fit name among s next held t u h =
      let list = changes f may tag to kind in
      let past = at + length (acting at test list) in
      let b = holds test (view_on w.site f.outward t) in
      let d = holds test (view_on w.site f.outward u) in
      let here = acted_by w.p f.outward to kind (tagged tag t) in
      let there = done w.p list u in
      let holding_now = held_by to kind held in
      subst (λ x. Agree f.tags (cond b (go holding_now here) (go held t)) x)
      (sym (ap stage_end (acting_walk w at test list (all_changes f may tag to kind) s u) ∙ end_by d (run w past there) (run w past u)))
      (agree_by f.tags b d (holds_same f.tags test fit w.site f.outward t u h.alike) (go holding_now here) (go held t) (stage_end (run w past there)) (stage_end (run w past u))
      (next holding_now here there (held_behind_one may tag to held kind t u name among h))
      (next held t u (shows_more f may (is_some (end_held kind to)) held t u h)))

  rule_step : (at : ℕ) (may met quick : Bool) (kind : PfoKind) (tag : Option ℕ) (to : Option End) (test : List Lit) (go : Option End → Transit → Option Transit)
      → cond_fits f.tags test ≡ true → tag_fits f.tags tag ≡ true → (not quick || not (decides_nothing kind)) ≡ true → IsAmong f (end_by_parts met quick kind to)
      → Stands w at (cond met (acting at test (acts_by may quick tag to kind)) [])
      → GoesOn (may || is_some (end_by_parts met quick kind to)) (at + length (cond met (acting at test (acts_by may quick tag to kind)) [])) go
      → (held : Option End) (t u : Transit) → Shows f may held t u
      → Agree f.tags (cond (met && holds test (view_on w.site f.outward t)) (matched quick kind tag to go held t) (go held t)) (stage_end (run w at u))
  rule_step at may false quick kind tag to test go fit name slow among s next held t u h =
      let same : at + 0 ≡ at = omega arith in
      subst (λ n. Agree f.tags (go held t) (stage_end (run w n u))) same (next held t u (shows_more f may false held t u h))
  rule_step at may true true kind tag to test go fit name slow among s next held t u h = quick_step at may kind tag to test go fit slow s next held t u h
  rule_step at may true false kind tag to test go fit name slow among s next held t u h = slow_step at may kind tag to test go fit name among s next held t u h

  -- Rules in their order

  pub head_walk : (tail : List PfoRule) (at : ℕ) (may : Bool) (ends : List End) (rs : List PfoRule) → gathered f.outward ends rs ≡ f.ends → list_all (rule_fits f.tags) rs ≡ true
      → Stands w at (met_rules f may at rs)
      → ((more : Bool) → GoesOn more (at + length (met_rules f may at rs)) (rules_walk w.site w.p f.outward tail))
      → GoesOn may at (rules_walk w.site w.p f.outward (rs ++ tail))
  head_walk tail at may ends [] are fit s next =
      let same : at + 0 ≡ at = omega arith in
      λ held t u h. subst (λ n. Agree f.tags (rules_walk w.site w.p f.outward tail held t) (stage_end (run w n u))) same (next may held t u h)
  head_walk tail at may ends (r ∷ rs) are fit s next =
      let fits = and_parts (rule_fits f.tags r) (list_all (rule_fits f.tags) rs) fit in
      let known = fitting f.tags r fits.0 in
      let here = met_rule f may at r in
      let place = at + length here in
      let later = may || is_some (end_of f.outward r) in
      let rest = met_rules f later place rs in
      let parts = w.law.parts place here rest s refl in
      let many : length (here ++ rest) ≡ length here + length rest = length-append here rest in
      let same : at + length (here ++ rest) ≡ place + length rest = omega (arith, many) in
      let among : IsAmong f (end_of f.outward r) = subst (λ list. IfSome (end_of f.outward r) (λ e. list_any (same_end e) list ≡ true)) are (first_among f.outward ends r rs) in
      rule_step at may (is_met r.way f.outward) r.quick r.kind r.tag r.to r.cond (rules_walk w.site w.p f.outward (rs ++ tail)) known.test known.tag known.slow among parts.0
      (head_walk tail place later (with_end ends (end_of f.outward r)) rs are fits.1 parts.1
      (λ more. subst (λ n. GoesOn more n (rules_walk w.site w.p f.outward tail)) same (next more)))

-- All rules of a pass

fits_split : (tags n : ℕ) (rs : List PfoRule) → list_all (rule_fits tags) rs ≡ true
    → (list_all (rule_fits tags) (take n rs) ≡ true) × (list_all (rule_fits tags) (drop n rs) ≡ true)
fits_split tags n rs fit =
    and_parts (list_all (rule_fits tags) (take n rs)) (list_all (rule_fits tags) (drop n rs))
    (sym (list_all-append (rule_fits tags) (take n rs) (drop n rs)) ∙ ap (list_all (rule_fits tags)) (take-append-drop n rs) ∙ fit)

pub filter_walk : (f : Frame) (w : Course New f.outward) (at : ℕ) (rs : List PfoRule) (tail : List Ruling) → length f.ends < 2 ^ f.bits
    → gathered f.outward [] (head_of f.outward rs) ≡ f.ends → list_all (rule_fits f.tags) rs ≡ true → IsTail f.outward rs tail
    → Stands w at (filter_rules f at rs tail) → drop (at + length (filter_rules f at rs tail)) w.full ≡ []
    → (held : Option End) (t u : Transit) → Shows f false held t u → Agree f.tags (rules_walk w.site w.p f.outward rs held t) (stage_end (run w at u))
filter_walk f w at rs tail room are fit stands s none held t u h =
    let n = tail_place f.outward rs in
    let fits = fits_split f.tags n rs fit in
    let ahead = ahead_rules f at rs in
    let place = at + length ahead in
    let middle = tail_rules f.outward place tail in
    let later = at + length (ahead ++ middle) in
    let last = held_rules f later 1 f.ends in
    let parts = w.law.parts later (ahead ++ middle) last s refl in
    let both = w.law.parts place ahead middle parts.0 refl in
    let many : length (ahead ++ middle) ≡ length ahead + length middle = length-append ahead middle in
    let all : length (ahead ++ middle ++ last) ≡ length (ahead ++ middle) + length last = length-append (ahead ++ middle) last in
    let same : later ≡ place + length middle = omega (arith, many) in
    let final : at + length (ahead ++ middle ++ last) ≡ later + length last = omega (arith, all) in
    let behind : (more : Bool) (held : Option End) (t u : Transit) → Shows f more held t u → Agree f.tags (ended w.p f.outward held t) (stage_end (run w later u)) =
    held_walk f w room later parts.1 (subst (λ k. drop k w.full ≡ []) final none) in
    subst (λ list. Agree f.tags (rules_walk w.site w.p f.outward list held t) (stage_end (run w at u))) (take-append-drop n rs)
    (head_walk f w (tail_of f.outward rs) at false [] (head_of f.outward rs) are fits.0 both.0
    (λ more held t u h. tail_walk f.outward w f.tags place (tail_of f.outward rs) tail fits.1 (tail_untouched f.outward rs) stands both.1 held t u h.alike
    (subst (λ k. Agree f.tags (ended w.p f.outward held t) (stage_end (run w k u))) same (behind more held t u h))) held t u h)
