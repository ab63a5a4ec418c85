-- What is made of the text of a file, by which the plan of the file goes on.
use Rattle.std.proofs.Common.{◌≡◌, ℕ, Option, Result, Ok, Err, IfOk, List, refl}
use Rattle.fws_net.specs.declared.site.Site.{Site}
use Rattle.fws_top.specs.Codes.{IsCode, IsTakenCode}
use Rattle.fws_top.specs.declared.answer.Stop.{Stop}
use Rattle.fws_top.specs.declared.lang.SourceLang.{SourceLang}
use Rattle.fws_top.specs.declared.placed.Placed.{Placed}
use Rattle.fws_top.specs.declared.placed.PlacedCode.{PlacedCode}
use Rattle.fws_top.specs.declared.policy.PolicyCode.{PolicyCode}
use Rattle.fws_top.specs.Due.{Contents}
use Rattle.fws_top.specs.Judged.{judge}
use Rattle.fws_top.specs.PlacedCodes.{IsPlaced, IsPlacedCode, IsTakenPlaced, IsTakenPlacedCode}
use Rattle.fws_top.specs.Plan.{file_plan, judged, source_plan}
use Rattle.fws_top.specs.Steps.{GoesOn}
use Rattle.fws_top.proofs.Chosen.{chosen}

-- code of a policy
pub taken_code : (lang : SourceLang) (name bytes seen : List ℕ) (site : Site) (told : Option Contents) (result : Result PolicyCode Stop)
    → seen ≡ bytes → GoesOn (file_plan name) told bytes → IfOk result (IsCode (judged name (judge lang site seen)) site)
    → IfOk result (IsTakenCode (source_plan lang site name) told site)
taken_code lang name bytes seen site told (Ok code) same on is = record {
  ok = is.ok;
  policy = is.policy;
  regular = is.regular;
  does = is.does;
  tracks = is.tracks;
  goes_on = chosen name bytes seen told (λ b. judged name (judge lang site b)) is.policy same on is.chooses;
}
taken_code lang name bytes seen site told (Err stop) same on is = tt

-- a diagram in which rules have places
pub taken_placed : (lang : SourceLang) (name bytes seen : List ℕ) (site : Site) (told : Option Contents) (result : Result Placed Stop)
    → seen ≡ bytes → GoesOn (file_plan name) told bytes → IfOk result (IsPlaced (judge lang site seen) site)
    → IfOk result (IsTakenPlaced lang name told site)
taken_placed lang name bytes seen site told (Ok placed) same on is = record {
  text = judge lang site seen;
  is = is;
  goes_on = chosen name bytes seen told (λ b next. next (judge lang site b)) (judge lang site seen) same on (λ next. refl);
}
taken_placed lang name bytes seen site told (Err stop) same on is = tt

-- code in which they do
pub taken_placed_code : (lang : SourceLang) (name bytes seen : List ℕ) (site : Site) (told : Option Contents) (result : Result PlacedCode Stop)
    → seen ≡ bytes → GoesOn (file_plan name) told bytes → IfOk result (IsPlacedCode (judged name (judge lang site seen)) site)
    → IfOk result (IsTakenPlacedCode (source_plan lang site name) told site)
taken_placed_code lang name bytes seen site told (Ok code) same on is = record {
  policy = is.policy;
  told = is.told;
  goes_on = chosen name bytes seen told (λ b. judged name (judge lang site b)) is.policy same on is.chooses;
}
taken_placed_code lang name bytes seen site told (Err stop) same on is = tt
