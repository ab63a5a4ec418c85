use Rattle.std.proofs.Common.{◌≡◌, ◌≢◌, ◌≤◌, Some, List, length, sym, subst, All}
use Rattle.std.proofs.lemmas.Result.{IfOk-weaker}
use Rattle.std.specs.Prelude.{Contains}
use Rattle.fws_net.specs.declared.outcome.End.{End}
use Rattle.fws_net.specs.declared.outcome.Outcome.TheVariants.{Accept}
use Rattle.fws_net.specs.declared.outcome.Rewrite.{Rewrite}
use Rattle.fws_net.specs.declared.packet.Packet.{Packet}
use Rattle.fws_place.specs.declared.redirect.Redirect.{Redirect}
use Rattle.fws_place.specs.Counts.{AreDifferent, IsShown, new_rows, redirect_of}
use Rattle.fws_place.specs.Meaning.{IsPacketOf, new_of}
use Rattle.fws_place.specs.RowRedirects.{AreRedirects}
use Rattle.fws_place.proofs.few_redirects.redirects.Goals as goal

pub returns : goal.returns
returns c =
    let site = c.args.site.now in
    let tables = c.args.tables.now in
    let Same : List Redirect → Type 0 = λ rs. rs ≡ c.in_ok-met.met.keys in
    let All_of : List Redirect → Type 0 = AreRedirects site tables in
    let all : (rs : List Redirect) → Same rs → All_of rs = λ rs e. subst All_of (sym e) c.in_ok-met.ensures in
    let Shown : List Redirect → Type 0
    = λ rs. (p : Packet) (w : Rewrite) (e : End) → IsPacketOf site p → new_of tables p ≡ Accept w → w.dst ≡ Some e → Contains rs (redirect_of e p) in
    let Sound : List Redirect → Type 0 = λ rs. All (IsShown site tables (new_rows tables)) rs in
    let Few : List Redirect → Type 0 = λ rs. length rs ≤ 4096 in
    let Somewhere : List Redirect → Type 0 = λ rs. All (λ (redirect : Redirect). redirect.public.addr ≢ 0) rs in
    record {
      shown = IfOk-weaker c.listed.result Same Shown (λ rs e. (all rs e).shown) c.listed.ensures;
      sound = IfOk-weaker c.listed.result Same Sound (λ rs e. (all rs e).sound) c.listed.ensures;
      few = IfOk-weaker c.listed.result Same Few (λ rs e. (all rs e).few) c.listed.ensures;
      somewhere = IfOk-weaker c.listed.result Same Somewhere (λ rs e. (all rs e).somewhere) c.listed.ensures;
      different = IfOk-weaker c.listed.result Same AreDifferent (λ rs e. (all rs e).different) c.listed.ensures;
    }
