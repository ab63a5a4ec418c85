use Rattle.std.proofs.Common.{◌≡◌, ℕ, Option, Some, IfSome, List, length, unwrap_or, sym, ◌∙◌, ap, subst}
use Rattle.std.proofs.lemmas.List.{length-map}
use Rattle.fws_net.specs.declared.connection.Kind.{Kind}
use Rattle.fws_net.specs.declared.packet.Packet.{Packet}
use Rattle.fws_net.specs.declared.site.Site.{Site}
use Rattle.fws_flat.specs.declared.code.Flat.{Flat}
use Rattle.fws_flat.specs.declared.code.Ins.{Ins}
use Rattle.fws_flat.specs.Uses.{uses}
use Rattle.fws_exec.specs.Idle.{is_tested, ins_without_idle, without_idle}
use Rattle.fws_exec.proofs.Reached.{reached_same}
use Rattle.fws_exec.proofs.reaching.reach.Goals as goal

-- of this code the same instructions are used as of that of f
abbrev UsesSame : Flat → List Ins → Type 0
UsesSame f code = (site : Site) (p : Packet) (k : Kind) (n : ℕ) → uses (record f { code = code }) site p k n ≡ uses f site p k n

-- the code that is executed is that which was found
found : (f : Flat) (o : Option (List Ins)) (code late : List Ins) → o ≡ Some code → late ≡ code → IfSome o (λ c. UsesSame f c) → UsesSame f late
found f o code late is same h site p k n =
    let known : UsesSame f code = subst (λ x. IfSome x (λ c. UsesSame f c)) is h in
    ap (λ c. uses (record f { code = c }) site p k n) same ∙ known site p k n

long : (f : Flat) (o : Option (List Ins)) (code late : List Ins) (mark : ℕ) → o ≡ Some code → late ≡ code → unwrap_or o f.code ≡ without_idle (is_tested f.code) mark f.code → length late ≡ length f.code
long f o code late mark is same made =
    ap length (same ∙ sym (ap (λ x. unwrap_or x f.code) is) ∙ made) ∙ length-map f.code (ins_without_idle (is_tested f.code) mark)

pub returns-in_ok-reached-in-Some : goal.returns-in_ok-reached-in-Some
returns-in_ok-reached-in-Some c =
    reached_same c.args.f.now c.as_slice.result.now c.args.site.now c.args.state c.in_ok-reached-in-Some.reached.items
    (long c.args.f.now c.in_ok-code.field-0 c.in-Some.code c.as_slice.result.now c.in_ok-code.ensures.idle.0 c.in-Some.is c.as_slice.ensures c.in_ok-code.ensures.idle.1)
    (found c.args.f.now c.in_ok-code.field-0 c.in-Some.code c.as_slice.result.now c.in-Some.is c.as_slice.ensures c.in_ok-code.ensures.uses)
    c.in_ok-reached-in-Some.ensures
