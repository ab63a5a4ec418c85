-- The rules that translate by an instance do what the instance does.
use Rattle.std.proofs.Common.{◌≡◌, ℕ, suc, ◌+◌, ◌*◌, ◌<◌, ◌≤◌, Bool, true, false, cond, Option, Some, None, List, [], ◌∷◌, ◌++◌, length, arith, refl, ap, ◌∙◌, length-append}
use Rattle.std.specs.List.{find, list_all}
use Rattle.std.specs.Option.{option_map_or}
use Rattle.fws_net.specs.declared.connection.Kind.{Kind}
use Rattle.fws_net.specs.declared.connection.Kind.TheVariants.{New, Est}
use Rattle.fws_net.specs.declared.packet.Packet.{Packet}
use Rattle.fws_net.specs.declared.transit.Transit.{Transit}
use Rattle.fws_net.specs.Conditions.{holds}
use Rattle.fws_net.specs.Ends.{host_end}
use Rattle.fws_net.specs.Transits.{with_src, with_dst}
use Rattle.fws_ifcl.specs.declared.diagram.Act.TheVariants.{Skip}
use Rattle.fws_ifcl_rules.specs.Rules.{ruled, always}
use Rattle.fws_ipfw.specs.declared.config.IpfwNat.{IpfwNat}
use Rattle.fws_ipfw.specs.declared.config.Redirect.{Redirect}
use Rattle.fws_ipfw.specs.Soundness.{redirect_fits}
use Rattle.fws_ipfw.specs.Walk.{redirect_out, tracked_on, translated_by}
use Rattle.fws_ipfw_ifcl.specs.Translating.{by_trial, asking, writing, aliasing, aliasing_width, choosing_all, writing_all, redirecting, redirecting_width, tracking, translating_by, translating, translating_width}
use Rattle.fws_ipfw_ifcl.proofs.Courses.{Course, sight, run, Stands, walked, parted}
use Rattle.fws_ipfw_ifcl.proofs.Lengths.{choosing_length, aliasing_length, redirecting_length}
use Rattle.fws_ipfw_ifcl.proofs.Matching.{found_in, found_out}

-- what is written for a redirect
abbrev pub wrote : Packet → Bool → Redirect → Transit → Transit
wrote p true r t = with_src p r.public t
wrote p false r t = with_dst p r.local t

-- what is written without a redirect
abbrev pub aliased : Packet → Bool → ℕ → Transit → Transit
aliased p true alias t = with_src p (host_end alias None) t
aliased p false alias t = t

-- the rules that write for a redirect
written : {X : Type 0} {k : Kind} {outward : Bool} (w : Course X k outward) (out : Bool) (at done : ℕ) (r : Redirect) → Stands w at (always (writing out r) ∷ always (Skip done) ∷ [])
    → at + 1 < done → (t : Transit) → run w at t ≡ run w done (wrote w.p out r t)
written w true at done r s lt t = walked w s (tt, (lt, tt)) t
written w false at done r s lt t = walked w s (tt, (lt, tt)) t

-- a redirect in front of those that are looked through
chosen : {X : Type 0} (f : Redirect → X) (b : Bool) (r : Redirect) (o : Option Redirect) (d : X) → cond b (f r) (option_map_or f o d) ≡ option_map_or f (cond b (Some r) o) d
chosen f true r o d = refl
chosen f false r o d = refl

-- the first redirect whose condition holds is written
choosing_walk : {X : Type 0} {k : Kind} {outward : Bool} (w : Course X k outward) (out : Bool) (at to done : ℕ) (rs : List Redirect)
    → Stands w at (choosing_all out to rs) → Stands w to (writing_all out done rs) → at + length rs ≤ to → to + 2 * length rs ≤ done → (t : Transit)
    → run w at t ≡ option_map_or (λ r. run w done (wrote w.p out r t)) (find (λ r. holds (asking out r) (sight w t)) rs) (run w (at + length rs) t)
choosing_walk w out at to done [] s writes near far t =
    let same : at ≡ at + 0 = omega arith in
    ap (λ n. run w n t) same
choosing_walk {X} w out at to done (r ∷ rs) s writes near far t =
    let f : Redirect → X = λ r. run w done (wrote w.p out r t) in
    let asks : Redirect → Bool = λ r. holds (asking out r) (sight w t) in
    let next : (at + 1) + length rs ≡ at + suc (length rs) = omega arith in
    let choices = parted w (at + 1) (ruled (asking out r) (Skip to) ∷ []) (choosing_all out (to + 2) rs) s refl in
    let writings = parted w (to + 2) (always (writing out r) ∷ always (Skip done) ∷ []) (writing_all out done rs) writes refl in
    let hit : run w to t ≡ f r = written w out to done r writings.0 (omega (arith, far)) t in
    let miss : run w (at + 1) t ≡ option_map_or f (find asks rs) (run w (at + suc (length rs)) t) =
    choosing_walk w out (at + 1) (to + 2) done rs choices.1 writings.1 (omega (arith, near)) (omega (arith, far)) t
    ∙ ap (λ n. option_map_or f (find asks rs) (run w n t)) next in
    walked w choices.0 (omega (arith, near), tt) t
    ∙ ap (λ end. cond (asks r) end (run w (at + 1) t)) hit
    ∙ ap (λ end. cond (asks r) (f r) end) miss
    ∙ chosen f (asks r) r (find asks rs) (run w (at + suc (length rs)) t)

-- without a redirect
aliasing_walk : {X : Type 0} {k : Kind} {outward : Bool} (w : Course X k outward) (out : Bool) (alias at done : ℕ)
    → Stands w at (aliasing out alias) → Stands w (at + aliasing_width out) (always (Skip done) ∷ []) → at + aliasing_width out < done → (t : Transit)
    → run w at t ≡ run w done (aliased w.p out alias t)
aliasing_walk w true alias at done s last lt t =
    walked w s (tt, tt) t ∙ walked w last (omega (arith, lt), tt) (with_src w.p (host_end alias None) t)
aliasing_walk w false alias at done s last lt t =
    let same : at ≡ at + 0 = omega arith in
    ap (λ n. run w n t) same ∙ walked w last (omega (arith, lt), tt) t

-- a function of what is made of the redirect that is met, and of what is there without one
outside : {X Y : Type 0} (f : X → Y) (g : Redirect → X) (o : Option Redirect) (d : X) → option_map_or (λ r. f (g r)) o (f d) ≡ f (option_map_or g o d)
outside f g None d = refl
outside f g (Some r) d = refl

-- the rules for redirects and for the alias
redirecting_walk : {X : Type 0} {k : Kind} {outward : Bool} (w : Course X k outward) (out : Bool) (alias at done : ℕ) (rs : List Redirect)
    → Stands w at (redirecting out alias at done rs) → at + redirecting_width out rs ≤ done → (t : Transit)
    → run w at t ≡ run w done (option_map_or (λ r. wrote w.p out r t) (find (λ r. holds (asking out r) (sight w t)) rs) (aliased w.p out alias t))
redirecting_walk w out alias at done rs s far t =
    let to = at + (length rs + (aliasing_width out + 1)) in
    let choices = choosing_all out to rs in
    let middle = aliasing out alias in
    let writes = writing_all out done rs in
    let last = always (Skip done) in
    let asks : Redirect → Bool = λ r. holds (asking out r) (sight w t) in
    let many : length choices ≡ length rs = choosing_length out to rs in
    let few : length middle ≡ aliasing_width out = aliasing_length out alias in
    let all : length (choices ++ middle) ≡ length choices + length middle = length-append choices middle in
    let parts = parted w ((at + length rs) + aliasing_width out) (choices ++ middle) (last ∷ writes) s (omega (arith, many, few, all)) in
    let front = parted w (at + length rs) choices middle parts.0 (omega (arith, many)) in
    let back = parted w to (last ∷ []) writes parts.1 (omega arith) in
    choosing_walk w out at to done rs front.0 back.1 (omega arith) (omega (arith, far)) t
    ∙ ap (option_map_or (λ r. run w done (wrote w.p out r t)) (find asks rs))
    (aliasing_walk w out alias (at + length rs) done front.1 back.0 (omega (arith, far)) t)
    ∙ outside (run w done) (λ r. wrote w.p out r t) (find asks rs) (aliased w.p out alias t)

-- Tracking

-- where a packet goes on behind the rules for packets of connections
abbrev after_tracking : Kind → Bool → ℕ → ℕ → ℕ → ℕ
after_tracking (Est r) outward inwards outwards done = done
after_tracking New true inwards outwards done = outwards
after_tracking New false inwards outwards done = inwards

-- packets of connections get their ends, and the others come to the rules for redirects
tracking_walk : {X : Type 0} (k : Kind) (outward : Bool) (w : Course X k outward) (at done outwards : ℕ) → Stands w at (tracking done outwards) → at + 4 ≤ done → at + 4 ≤ outwards → (t : Transit)
    → run w at t ≡ run w (after_tracking k outward (at + 4) outwards done) (tracked_on k outward t)
tracking_walk (Est r) true w at done outwards s far out t = walked w s (tt, (tt, (omega (arith, far), (omega (arith, out), tt)))) t
tracking_walk (Est r) false w at done outwards s far out t = walked w s (tt, (tt, (omega (arith, far), (omega (arith, out), tt)))) t
tracking_walk New true w at done outwards s far out t = walked w s (tt, (tt, (omega (arith, far), (omega (arith, out), tt)))) t
tracking_walk New false w at done outwards s far out t = walked w s (tt, (tt, (omega (arith, far), (omega (arith, out), tt)))) t

-- Translating

-- what is written does what the instance does
translated_found : {X : Type 0} (k : Kind) (outward : Bool) (w : Course X k outward) (nat : IpfwNat) → list_all redirect_fits nat.redirects ≡ true → (at outwards done : ℕ) (t : Transit)
    → run w at t ≡ run w done (option_map_or (λ r. wrote w.p false r t) (find (λ r. holds (asking false r) (sight w t)) (by_trial nat.redirects)) t)
    → run w outwards t ≡ run w done (option_map_or (λ r. wrote w.p true r t) (find (λ r. holds (asking true r) (sight w t)) (by_trial nat.redirects)) (with_src w.p (host_end nat.alias None) t))
    → run w (after_tracking k outward at outwards done) (tracked_on k outward t) ≡ run w done (translated_by w.p k outward nat t)
translated_found (Est r) outward w nat fits at outwards done t inner outer = refl
translated_found New false w nat fits at outwards done t inner outer =
    inner ∙ ap (λ o. run w done (option_map_or (λ r. with_dst w.p r.local t) o t)) (found_in (sight w t) nat.redirects fits)
translated_found New true w nat fits at outwards done t inner outer =
    outer
    ∙ ap (λ o. run w done (option_map_or (λ r. with_src w.p r.public t) o (with_src w.p (host_end nat.alias None) t))) (found_out (sight w t) nat.redirects fits)
    ∙ ap (run w done) (outside (λ e. with_src w.p e t) (λ r. r.public) (redirect_out nat.redirects t.packet) (host_end nat.alias None))

-- the rules of an instance
translating_by_walk : {X : Type 0} (k : Kind) (outward : Bool) (w : Course X k outward) (at done : ℕ) (nat : IpfwNat) → list_all redirect_fits nat.redirects ≡ true
    → Stands w at (translating_by at done nat) → at + translating_width (Some nat) ≤ done → (t : Transit)
    → run w at t ≡ run w done (translated_by w.p k outward nat t)
translating_by_walk k outward w at done nat fits s far t =
    let rs = by_trial nat.redirects in
    let outwards = at + (4 + redirecting_width false rs) in
    let tracks = tracking done outwards in
    let inner = redirecting false nat.alias (at + 4) done rs in
    let outer = redirecting true nat.alias outwards done rs in
    let wide : length inner ≡ redirecting_width false rs = redirecting_length false nat.alias (at + 4) done rs in
    let all : length (tracks ++ inner) ≡ 4 + length inner = length-append tracks inner in
    let parts = parted w outwards (tracks ++ inner) outer s (omega (arith, wide, all)) in
    let front = parted w (at + 4) tracks inner parts.0 refl in
    tracking_walk k outward w at done outwards front.0 (omega (arith, far)) (omega arith) t
    ∙ translated_found k outward w nat fits (at + 4) outwards done t
    (redirecting_walk w false nat.alias (at + 4) done rs front.1 (omega (arith, far)) t)
    (redirecting_walk w true nat.alias outwards done rs parts.1 (omega (arith, far)) t)

-- an instance that is there fits
abbrev pub NatFits : Option IpfwNat → Type 0
NatFits None = Unit {0}
NatFits (Some nat) = list_all redirect_fits nat.redirects ≡ true

-- the rules of an instance, or of none
pub translating_walk : {X : Type 0} (k : Kind) (outward : Bool) (w : Course X k outward) (at done : ℕ) (nat : Option IpfwNat) → NatFits nat
    → Stands w at (translating at done nat) → at + translating_width nat ≤ done → (t : Transit)
    → run w at t ≡ run w done (option_map_or (λ n. translated_by w.p k outward n t) nat t)
translating_walk k outward w at done None fits s far t = walked w s (omega (arith, far), tt) t
translating_walk k outward w at done (Some nat) fits s far t = translating_by_walk k outward w at done nat fits s far t
