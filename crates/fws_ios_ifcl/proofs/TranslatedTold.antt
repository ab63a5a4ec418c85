-- What is told of the rules of statics is the static that gives an end.
use Rattle.std.proofs.Common.{◌≡◌, ℕ, suc, ◌+◌, Bool, true, false, cond, Option, Some, None, List, [], ◌∷◌, ◌++◌, length, arith, refl, ap, ◌∙◌, length-append}
use Rattle.std.specs.Option.{option_map_or}
use Rattle.fws_net.specs.declared.condition.Lit.{Lit}
use Rattle.fws_net.specs.declared.connection.Kind.TheVariants.{New}
use Rattle.fws_net.specs.declared.outcome.End.{End}
use Rattle.fws_net.specs.declared.transit.Transit.{Transit}
use Rattle.fws_net.specs.Conditions.{holds}
use Rattle.fws_net.specs.Transits.{with_dst, with_src}
use Rattle.fws_ifcl.specs.declared.diagram.Act.{Act}
use Rattle.fws_ifcl.specs.declared.diagram.Act.TheVariants.{Accept, Dst, Src}
use Rattle.fws_ifcl_rules.specs.Places.{IsForward, sight, Stands}
use Rattle.fws_ifcl_rules.specs.Rules.{always, guard, guarded}
use Rattle.fws_ifcl_rules.specs.UsedPlaces.{tell, Bears}
use Rattle.fws_ios.specs.declared.config.IosNat.{IosNat}
use Rattle.fws_ios.specs.declared.config.IosNat.TheVariants.{Static, List as Listed}
use Rattle.fws_ios.specs.Uses.{static_used}
use Rattle.fws_ios.specs.Walk.{first_end}
use Rattle.fws_ios_ifcl.specs.Blocks.{static_cond, static_rules, statics_from}
use Rattle.fws_ios_ifcl.proofs.Beside.{static_beside, statics_beside, static_many}
use Rattle.fws_ios_ifcl.proofs.Holding.{is_there, static_holds}
use Rattle.fws_ios_ifcl.proofs.Listed.{Course}
use Rattle.fws_ios_ifcl.proofs.ListedTold.{Tale, through, by_act}
use Rattle.fws_ios_ifcl.proofs.Translated.{given}

-- the first static that gives an end, of those of which the first is counted n, or what is told behind all
abbrev pub static_or : (IosNat → Option End) → ℕ → List IosNat → List ℕ → List ℕ
static_or gives n [] rest = rest
static_or gives n (nat ∷ nats) rest = option_map_or (λ e. n ∷ []) (gives nat) (static_or gives (suc n) nats rest)

-- behind which nothing is
pub static_alone : (gives : IosNat → Option End) (n : ℕ) (nats : List IosNat) → static_or gives n nats [] ≡ static_used gives n nats
static_alone gives n [] = refl
static_alone gives n (nat ∷ nats) = ap (option_map_or (λ e. n ∷ []) (gives nat)) (static_alone gives (suc n) nats)

one_or_later : (n : ℕ) (used rest : List ℕ) (first later : Option End)
    → option_map_or (λ e. n ∷ []) first (option_map_or (λ e. used) later rest)
    ≡ option_map_or (λ e. option_map_or (λ e. n ∷ []) first used) (option_map_or Some first later) rest
one_or_later n used rest None later = refl
one_or_later n used rest (Some e) later = refl

-- the first one where there is one
pub static_first : (gives : IosNat → Option End) (n : ℕ) (nats : List IosNat) (rest : List ℕ)
    → static_or gives n nats rest ≡ option_map_or (λ e. static_used gives n nats) (first_end gives nats) rest
static_first gives n [] rest = refl
static_first gives n (nat ∷ nats) rest =
    ap (option_map_or (λ e. n ∷ []) (gives nat)) (static_first gives (suc n) nats rest)
    ∙ one_or_later n (static_used gives (suc n) nats) rest (gives nat) (first_end gives nats)

-- the end of one that matches
one_told : (n : ℕ) (b : Bool) (e : End) (rest : List ℕ) → cond b (n ∷ []) rest ≡ option_map_or (λ e. n ∷ []) (cond b (Some e) None) rest
one_told n true e rest = refl
one_told n false e rest = refl

module _ (outward : Bool) (chain : ℕ) (w : Course New outward chain) (u : Tale w) where
  -- an end that is written where a condition holds
  writing_told : (act : Act) (after : Transit → Transit) → ((next : Transit → List ℕ) (t : Transit) → by_act New outward chain w u next act t ≡ next (after t))
      → ((m : ℕ) → IsForward m act) → (at n : ℕ) (test : List Lit) → Stands w at (guarded at test (always act ∷ always Accept ∷ []))
      → Bears u at ((n ∷ []) ∷ [] ∷ [] ∷ [] ∷ []) → (t : Transit)
      → tell u at t ≡ cond (holds test (sight w t)) (n ∷ []) (tell u (at + 4) t)
  writing_told act after acts forward at n test s b t =
      let halves = w.law.parts (at + 2) (guard at test 2) (always act ∷ always Accept ∷ []) s refl in
      let numbers = u.law.parts (at + 2) ((n ∷ []) ∷ [] ∷ []) ([] ∷ [] ∷ []) b refl in
      u.law.told halves.0 numbers.0 (omega arith, (omega arith, tt)) t
      ∙ ap (λ end. cond (holds test (sight w t)) (n ∷ end) (tell u (at + 4) t))
      (u.law.told halves.1 numbers.1 (forward ((at + 2) + 0), (tt, tt)) t ∙ acts (through New outward chain w u (at + 2) 1 (always Accept ∷ []) ([] ∷ [])) t)

-- a translation that is a static
static_told : (outward : Bool) (chain : ℕ) (w : Course New outward chain) (u : Tale w) (at n : ℕ) (nat : IosNat) → Stands w at (static_rules outward at nat)
    → Bears u at (static_beside n nat) → (t : Transit)
    → tell u at t ≡ option_map_or (λ e. n ∷ []) (given outward t.packet nat) (tell u (at + length (static_rules outward at nat)) t)
static_told true chain w u at n (Static proto local global) s b t =
    let test = static_cond true proto local in
    writing_told true chain w u (Src global) (with_src w.p global) (λ next v. refl) (λ m. tt) at n test s b t
    ∙ ap (λ h. cond h (n ∷ []) (tell u (at + 4) t)) (static_holds true proto local (sight w t))
    ∙ one_told n (is_there true proto local (sight w t)) global (tell u (at + 4) t)
static_told false chain w u at n (Static proto local global) s b t =
    let test = static_cond false proto global in
    writing_told false chain w u (Dst local) (with_dst w.p local) (λ next v. refl) (λ m. tt) at n test s b t
    ∙ ap (λ h. cond h (n ∷ []) (tell u (at + 4) t)) (static_holds false proto global (sight w t))
    ∙ one_told n (is_there false proto global (sight w t)) local (tell u (at + 4) t)
static_told true chain w u at n (Listed name addr) s b t =
    let same : at ≡ at + 0 = omega arith in
    ap (λ m. tell u m t) same
static_told false chain w u at n (Listed name addr) s b t =
    let same : at ≡ at + 0 = omega arith in
    ap (λ m. tell u m t) same

-- all statics
pub statics_told : (outward : Bool) (chain : ℕ) (w : Course New outward chain) (u : Tale w) (last at n : ℕ) (nats : List IosNat) → Stands w at (statics_from outward at nats)
    → Bears u at (statics_beside n nats) → at + length (statics_from outward at nats) ≡ last → (t : Transit)
    → tell u at t ≡ static_or (given outward t.packet) n nats (tell u last t)
statics_told outward chain w u last at n [] s b long t =
    let same : at ≡ last = omega (arith, long) in
    ap (λ m. tell u m t) same
statics_told outward chain w u last at n (nat ∷ nats) s b long t =
    let here = static_rules outward at nat in
    let next = at + length here in
    let more = statics_from outward next nats in
    let all : length (here ++ more) ≡ length here + length more = length-append here more in
    let halves = w.law.parts next here more s refl in
    let numbers = u.law.parts next (static_beside n nat) (statics_beside (suc n) nats) b (ap (λ m. at + m) (static_many outward at n nat)) in
    static_told outward chain w u at n nat halves.0 numbers.0 t
    ∙ ap (option_map_or (λ e. n ∷ []) (given outward t.packet nat)) (statics_told outward chain w u last next (suc n) nats halves.1 numbers.1 (omega (arith, long, all)) t)
