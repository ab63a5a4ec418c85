-- `load` is never refused: the generated texts spell a site and a filter, and what it does is to show what they come to.
use Rattle.std.specs.Prelude.{◌≡◌, ◌≢◌, ◌≤◌, ℕ, Some, List, [], ◌∷◌, codes}
use Rattle.fws_ipt.specs.Walk.{walk}
use Rattle.fws_load_laws.specs.LoadedFilters.{load_config}
use Rattle.fws_load_laws.specs.LoadedSite.{load_site}
use Rattle.fws_num.specs.Numbers.{dec_of}
use Rattle.fws_top.specs.Due.{plan_for}
use Rattle.fws_top.specs.Forms.{load}
use Rattle.fws_top.specs.Plan.{Plan, shows, plan_of}
use Rattle.fws_top.specs.Tables.{loaded}
use Rattle.fws_top.specs.Walked.{Walk}

-- what the generated filter with so many rules makes of the packets of each class, at the generated site
abbrev pub load_walk : ℕ → Walk
load_walk n = walk (load_config n) load_site

-- the plan that shows what it comes to
abbrev pub load_plan : ℕ → Plan
load_plan n = shows (loaded n load_site (load_walk n))

-- with as many rules as `load` takes, its plan is this one
abbrev pub LoadsAreShown : Type 0
LoadsAreShown = (n : ℕ) → 1 ≤ n → n ≤ 4000 → plan_of (load n) ≡ load_plan n

-- so it is for the words `load N`, where N spells such a number
abbrev pub LoadWordsAreShown : Type 0
LoadWordsAreShown = (word : List ℕ) (n : ℕ) → dec_of word 4000 ≡ Some n → n ≢ 0 → plan_for (codes "load" ∷ word ∷ []) ≡ load_plan n
