-- The rules of lists at interfaces walk as these do.
use Rattle.std.proofs.Common.{◌≡◌, ℕ, ◌+◌, Bool, true, false, cond, ◌&&◌, nat_eq, Option, Some, None, List, [], ◌∷◌, ◌++◌, length, arith, refl, sym, ap, ◌∙◌, append-nil, length-append}
use Rattle.std.proofs.Math.Seq.{drop-length}
use Rattle.std.specs.Option.{option_map_or}
use Rattle.fws_net.specs.declared.connection.Kind.{Kind}
use Rattle.fws_net.specs.declared.transit.Transit.{Transit}
use Rattle.fws_net.specs.Conditions.{holds}
use Rattle.fws_net.specs.Showing.{receiving, sending}
use Rattle.fws_ifcl.specs.declared.diagram.Act.TheVariants.{Accept, Drop}
use Rattle.fws_ifcl.specs.declared.diagram.Rule.{Rule}
use Rattle.fws_ifcl.specs.declared.step.ChainEnd.{ChainEnd}
use Rattle.fws_ifcl.specs.declared.step.ChainEnd.TheVariants.{Accepted, Dropped, Through}
use Rattle.fws_ifcl.specs.Walk.{rules_walk, stage_end}
use Rattle.fws_ifcl_rules.specs.Places.{run, sight, Stands}
use Rattle.fws_ifcl_rules.specs.Rules.{ruled, guard, guarded}
use Rattle.fws_ios.specs.declared.config.IosConfig.{IosConfig}
use Rattle.fws_ios.specs.declared.config.IosGroup.{IosGroup}
use Rattle.fws_ios.specs.declared.config.IosList.{IosList}
use Rattle.fws_ios.specs.Walk.{permits, list_named, says, interface_of, is_directed, group_at, met}
use Rattle.fws_ios_ifcl.specs.Blocks.{listing, at_face, applying, applied, applied_from}
use Rattle.fws_ios_ifcl.specs.Diagram.{list_rules, stage_of}
use Rattle.fws_ios_ifcl.proofs.Holding.{shown_alone}
use Rattle.fws_ios_ifcl.proofs.Listed.{Course, filtering_walk}

-- the packet is at the interface
abbrev pub is_at : {k : Kind} (outward : Bool) {chain : ℕ} → Course k outward chain → ℕ → Transit → Bool
is_at outward w face t = option_map_or (nat_eq face) (interface_of w.site outward t) false

pub face_holds : (k : Kind) (outward : Bool) (chain : ℕ) (w : Course k outward chain) (face : ℕ) (t : Transit) → holds (at_face outward face) (sight w t) ≡ is_at outward w face t
face_holds k true chain w face t = shown_alone face (sending w.site t.packet)
face_holds k false chain w face t = shown_alone face (receiving t.packet)

module _ (k : Kind) (outward : Bool) (chain : ℕ) (w : Course k outward chain) where
  -- what becomes of a packet by a list
  abbrev judged : Bool → Transit → ChainEnd
  judged permitted t = cond permitted (Accepted t) Dropped

  -- what a list says; where there is none every packet passes
  abbrev said : Option IosList → Transit → Bool
  said found t = option_map_or (λ (l : IosList). permits w.site k outward l.entries t) found true

  -- the rules of a list, or where there is none
  abbrev rules_of : ℕ → ℕ → Option IosList → List Rule
  rules_of at face found =
      option_map_or (λ (l : IosList). guarded at (at_face outward face) (listing Accept Drop l.entries)) found (ruled (at_face outward face) Accept ∷ [])

  found_walk : (at face : ℕ) (found : Option IosList) → Stands w at (rules_of at face found) → (t : Transit)
      → run w at t ≡ cond (holds (at_face outward face) (sight w t)) (judged (said found t) t) (run w (at + length (rules_of at face found)) t)
  found_walk at face None s t = w.law.walked s (tt, tt) t
  found_walk at face (Some l) s t =
      let test = at_face outward face in
      let inner = listing Accept Drop l.entries in
      let halves = w.law.parts (at + 2) (guard at test (length inner)) inner s refl in
      let all : length (guarded at test inner) ≡ 2 + length inner = length-append (guard at test (length inner)) inner in
      let next : at + (2 + length inner) ≡ at + length (guarded at test inner) = omega (arith, all) in
      let h = holds test (sight w t) in
      w.law.walked halves.0 (omega arith, (omega arith, tt)) t
      ∙ ap (λ end. cond h end (run w (at + (2 + length inner)) t)) (filtering_walk k outward chain w (at + 2) l.entries halves.1 t)
      ∙ ap (λ n. cond h (judged (permits w.site k outward l.entries t) t) (run w n t)) next

  -- a list that may be applied in this direction
  directed_walk : (lists : List IosList) (at : ℕ) (directed : Bool) (g : IosGroup) → Stands w at (cond directed (applying outward at lists g) []) → (t : Transit)
      → run w at t
      ≡ cond (directed && is_at outward w g.face t) (judged (said (list_named g.list lists) t) t)
      (run w (at + length (cond directed (applying outward at lists g) [])) t)
  directed_walk lists at false g s t =
      let same : at ≡ at + 0 = omega arith in
      ap (λ n. run w n t) same
  directed_walk lists at true g s t =
      let found = list_named g.list lists in
      found_walk at g.face found s t
      ∙ ap (λ b. cond b (judged (said found t) t) (run w (at + length (rules_of at g.face found)) t)) (face_holds k outward chain w g.face t)

  -- the first list at the packet's interface
  abbrev by_group : List IosList → Option IosGroup → Transit → ChainEnd → ChainEnd
  by_group lists found t rest = option_map_or (λ (g : IosGroup). judged (said (list_named g.list lists) t) t) found rest

  first_or_later : (lists : List IosList) (b : Bool) (g : IosGroup) (later : Option IosGroup) (t : Transit) (rest : ChainEnd)
      → cond b (judged (said (list_named g.list lists) t) t) (by_group lists later t rest) ≡ by_group lists (cond b (Some g) later) t rest
  first_or_later lists true g later t rest = refl
  first_or_later lists false g later t rest = refl

  -- all lists
  pub applied_walk : (lists : List IosList) (last at : ℕ) (gs : List IosGroup) → Stands w at (applied_from outward at lists gs)
      → at + length (applied_from outward at lists gs) ≡ last → (t : Transit)
      → run w at t ≡ by_group lists (group_at outward (interface_of w.site outward t) gs) t (run w last t)
  applied_walk lists last at [] s long t =
      let same : at ≡ last = omega (arith, long) in
      ap (λ n. run w n t) same
  applied_walk lists last at (g ∷ gs) s long t =
      let here = applied outward at lists g in
      let next = at + length here in
      let more = applied_from outward next lists gs in
      let all : length (here ++ more) ≡ length here + length more = length-append here more in
      let halves = w.law.parts next here more s refl in
      let b = is_directed outward g && is_at outward w g.face t in
      let later = group_at outward (interface_of w.site outward t) gs in
      directed_walk lists at (is_directed outward g) g halves.0 t
      ∙ ap (cond b (judged (said (list_named g.list lists) t) t)) (applied_walk lists last next gs halves.1 (omega (arith, long, all)) t)
      ∙ first_or_later lists b g later t (run w last t)

-- Whole chains

-- behind the last rule of a chain
pub ended : (k : Kind) (outward : Bool) (chain : ℕ) (w : Course k outward chain) (t : Transit) → run w (length w.full) t ≡ Through t
ended k outward chain w t = ap (λ rules. rules_walk w.enter w.site w.p k (stage_of outward chain) (length w.full) rules 0 t) (drop-length w.full)

-- a packet that is accepted so far goes on
pub goes_on : (t : Transit) → t.verdict ≡ true → stage_end (Through t) ≡ Some t
goes_on t is = ap (λ b. cond b (Some t) None) is

module _ (k : Kind) (outward : Bool) (chain : ℕ) (w : Course k outward chain) (c : IosConfig) where
  judged_end : (b : Bool) (t : Transit) → stage_end (cond b (Accepted t) Dropped) ≡ cond b (Some t) None
  judged_end true t = refl
  judged_end false t = refl

  group_end : (found : Option IosGroup) (t : Transit) (rest : ChainEnd) → stage_end rest ≡ Some t
      → stage_end (option_map_or (λ (g : IosGroup). cond (says c w.site k outward true g.list t) (Accepted t) Dropped) found rest)
      ≡ cond (option_map_or (λ (g : IosGroup). says c w.site k outward true g.list t) found true) (Some t) None
  group_end None t rest is = is
  group_end (Some g) t rest is = judged_end (says c w.site k outward true g.list t) t

  -- lists, in a chain of their own
  pub lists_walk : w.full ≡ list_rules outward c → (t : Transit) → t.verdict ≡ true → stage_end (run w 0 t) ≡ met c w.site k outward t
  lists_walk are t is =
      let full = list_rules outward c in
      let stands : Stands w 0 full = record { rest = []; are = are ∙ sym (append-nil full) } in
      let last : 0 + length full ≡ length w.full = omega (arith, ap length are) in
      ap stage_end (applied_walk k outward chain w c.lists (length w.full) 0 c.groups stands last t)
      ∙ group_end (group_at outward (interface_of w.site outward t) c.groups) t (run w (length w.full) t) (ap stage_end (ended k outward chain w t) ∙ goes_on t is)
