-- The rules of statics walk as these do.
use Rattle.std.proofs.Common.{◌≡◌, ℕ, ◌+◌, Bool, true, false, cond, Option, Some, None, List, [], ◌∷◌, ◌++◌, length, arith, refl, ap, ◌∙◌, length-append}
use Rattle.std.specs.Option.{option_map_or}
use Rattle.fws_net.specs.declared.condition.Lit.{Lit}
use Rattle.fws_net.specs.declared.connection.Kind.TheVariants.{New}
use Rattle.fws_net.specs.declared.outcome.End.{End}
use Rattle.fws_net.specs.declared.packet.Packet.{Packet}
use Rattle.fws_net.specs.declared.transit.Transit.{Transit}
use Rattle.fws_net.specs.Conditions.{holds}
use Rattle.fws_net.specs.Transits.{with_dst, with_src}
use Rattle.fws_ifcl.specs.declared.diagram.Act.{Act}
use Rattle.fws_ifcl.specs.declared.diagram.Act.TheVariants.{Accept, Dst, Src}
use Rattle.fws_ifcl.specs.declared.step.ChainEnd.{ChainEnd}
use Rattle.fws_ifcl.specs.declared.step.ChainEnd.TheVariants.{Accepted}
use Rattle.fws_ifcl_rules.specs.Places.{behind_act, IsForward, run, sight, Stands, walk_through}
use Rattle.fws_ifcl_rules.specs.Rules.{always, guard, guarded}
use Rattle.fws_ios.specs.declared.config.IosNat.{IosNat}
use Rattle.fws_ios.specs.declared.config.IosNat.TheVariants.{Static, List as Listed}
use Rattle.fws_ios.specs.Walk.{first_end, inner_end, outer_end}
use Rattle.fws_ios_ifcl.specs.Blocks.{static_cond, static_rules, statics_from}
use Rattle.fws_ios_ifcl.specs.Diagram.{stage_of}
use Rattle.fws_ios_ifcl.proofs.Holding.{is_there, static_holds}
use Rattle.fws_ios_ifcl.proofs.Listed.{Course}

-- an end written over the source as packets go out, and over the destination as they come in
abbrev pub written : Packet → Bool → End → Transit → Transit
written p true e t = with_src p e t
written p false e t = with_dst p e t

-- what a static gives for it
abbrev pub given : Bool → Packet → IosNat → Option End
given true p nat = outer_end p nat
given false p nat = inner_end p nat

-- a packet leaves the chain with the end that is given, or the walk goes on
abbrev pub leaves_with : Packet → Bool → Transit → Option End → ChainEnd → ChainEnd
leaves_with p outward t found rest = option_map_or (λ e. Accepted (written p outward e t)) found rest

-- the end of one that matches
one_given : (p : Packet) (outward b : Bool) (e : End) (t : Transit) (rest : ChainEnd)
    → cond b (Accepted (written p outward e t)) rest ≡ leaves_with p outward t (cond b (Some e) None) rest
one_given p outward true e t rest = refl
one_given p outward false e t rest = refl

-- the first end or a later one
pub first_or_later : (p : Packet) (outward : Bool) (t : Transit) (first later : Option End) (rest : ChainEnd)
    → leaves_with p outward t first (leaves_with p outward t later rest) ≡ leaves_with p outward t (option_map_or Some first later) rest
first_or_later p outward t None later rest = refl
first_or_later p outward t (Some e) later rest = refl

module _ (outward : Bool) (chain : ℕ) (w : Course New outward chain) where
  -- an end that is written where a condition holds
  pub writing_walk : (act : Act) (after : Transit → Transit)
      → ((next : Transit → ChainEnd) (t : Transit) → behind_act w.enter w.site w.p New (stage_of outward chain) w.full next act t ≡ next (after t))
      → ((n : ℕ) → IsForward n act) → (at : ℕ) (test : List Lit) → Stands w at (guarded at test (always act ∷ always Accept ∷ [])) → (t : Transit)
      → run w at t ≡ cond (holds test (sight w t)) (Accepted (after t)) (run w (at + 4) t)
  writing_walk act after acts forward at test s t =
      let halves = w.law.parts (at + 2) (guard at test 2) (always act ∷ always Accept ∷ []) s refl in
      w.law.walked halves.0 (omega arith, (omega arith, tt)) t
      ∙ ap (λ end. cond (holds test (sight w t)) end (run w (at + 4) t)) (w.law.walked halves.1 (forward ((at + 2) + 0), (tt, tt)) t ∙ acts (walk_through w.enter w.site w.p New (stage_of outward chain) w.full (at + 2) 1 (always Accept ∷ [])) t)

-- a translation that is a static
static_walk : (outward : Bool) (chain : ℕ) (w : Course New outward chain) (at : ℕ) (nat : IosNat) → Stands w at (static_rules outward at nat) → (t : Transit)
    → run w at t ≡ leaves_with w.p outward t (given outward t.packet nat) (run w (at + length (static_rules outward at nat)) t)
static_walk true chain w at (Static proto local global) s t =
    let test = static_cond true proto local in
    writing_walk true chain w (Src global) (with_src w.p global) (λ next u. refl) (λ n. tt) at test s t
    ∙ ap (λ b. cond b (Accepted (with_src w.p global t)) (run w (at + 4) t)) (static_holds true proto local (sight w t))
    ∙ one_given w.p true (is_there true proto local (sight w t)) global t (run w (at + 4) t)
static_walk false chain w at (Static proto local global) s t =
    let test = static_cond false proto global in
    writing_walk false chain w (Dst local) (with_dst w.p local) (λ next u. refl) (λ n. tt) at test s t
    ∙ ap (λ b. cond b (Accepted (with_dst w.p local t)) (run w (at + 4) t)) (static_holds false proto global (sight w t))
    ∙ one_given w.p false (is_there false proto global (sight w t)) local t (run w (at + 4) t)
static_walk true chain w at (Listed name addr) s t =
    let same : at ≡ at + 0 = omega arith in
    ap (λ n. run w n t) same
static_walk false chain w at (Listed name addr) s t =
    let same : at ≡ at + 0 = omega arith in
    ap (λ n. run w n t) same

-- all statics
pub statics_walk : (outward : Bool) (chain : ℕ) (w : Course New outward chain) (last at : ℕ) (nats : List IosNat) → Stands w at (statics_from outward at nats)
    → at + length (statics_from outward at nats) ≡ last → (t : Transit)
    → run w at t ≡ leaves_with w.p outward t (first_end (given outward t.packet) nats) (run w last t)
statics_walk outward chain w last at [] s long t =
    let same : at ≡ last = omega (arith, long) in
    ap (λ n. run w n t) same
statics_walk outward chain w last at (nat ∷ nats) s long t =
    let here = static_rules outward at nat in
    let next = at + length here in
    let more = statics_from outward next nats in
    let all : length (here ++ more) ≡ length here + length more = length-append here more in
    let halves = w.law.parts next here more s refl in
    let first = given outward t.packet nat in
    let later = first_end (given outward t.packet) nats in
    static_walk outward chain w at nat halves.0 t
    ∙ ap (leaves_with w.p outward t first) (statics_walk outward chain w last next nats halves.1 (omega (arith, long, all)) t)
    ∙ first_or_later w.p outward t first later (run w last t)
