-- What conditions tell classes apart by.
use Rattle.std.specs.Prelude.{◌≡◌, ℕ, Bool, true, false, ◌&&◌, ◌||◌, not, nat_eq, nat_lt, Option, Some, None, List, if◌then◌else◌}
use Rattle.std.specs.List.{list_all, list_any}
use Rattle.std.specs.Option.{option_map_or}
use Rattle.fws_flat.specs.declared.code.Ins.{Ins}
use Rattle.fws_net.specs.declared.condition.Lit.{Lit}
use Rattle.fws_net.specs.declared.condition.Test.{Test}
use Rattle.fws_net.specs.declared.condition.Test.TheVariants.{Src, Dst, Sport, Dport, Xmit, Via, Tag}
use Rattle.fws_net.specs.declared.outcome.End.{End}
use Rattle.fws_exec.specs.declared.groups.Group.{Group}
use Rattle.fws_exec.specs.declared.progress.Progress.{Progress}
use Rattle.fws_exec.specs.declared.spot.Class.{Class}
use Rattle.fws_exec.specs.declared.views.Sides.{Sides}
use Rattle.fws_exec.specs.declared.views.View.{View}
use Rattle.fws_exec.specs.Sheets.{among, IsUsed}

-- the test looks at the source or its port
abbrev pub is_of_src : Test → Bool
is_of_src (Src set) = true
is_of_src (Sport set) = true
is_of_src _ = false

-- the test looks at the destination or its port, or at where it is routed
abbrev pub is_of_dst : Test → Bool
is_of_dst (Dst set) = true
is_of_dst (Dport set) = true
is_of_dst (Xmit set) = true
is_of_dst (Via set) = true
is_of_dst _ = false

-- the sides have what the test looks at of the ends of a packet
abbrev pub shows : Sides → Test → Bool
shows sides (Src set) = sides.src
shows sides (Sport set) = sides.src
shows sides (Dst set) = sides.dst
shows sides (Dport set) = sides.dst
shows sides (Xmit set) = sides.dst
shows sides (Via set) = sides.dst
shows sides _ = true

-- they do for each literal of the condition
abbrev pub shows_all : Sides → List Lit → Bool
shows_all sides cond = list_all (λ lit. shows sides lit.test) cond

-- they do for each instruction
abbrev pub shows_code : Sides → List Ins → Bool
shows_code sides code = list_all (λ ins. shows_all sides ins.cond) code

-- the end, if it is looked at
abbrev pub end_if : Bool → Option End → Option End
end_if true end = end
end_if false end = None

-- the end is that of a network
abbrev pub is_of_network : Option End → Bool
is_of_network end = option_map_or (λ e. nat_lt e.len 32) end false

-- the view of conditions that look at the sides, of the class with a number to which rules did this
abbrev pub seen_by : Progress → Sides → ℕ → View
seen_by g sides n = record {
  wrote = record { src = end_if sides.src g.wrote.src; dst = end_if sides.dst g.wrote.dst };
  src_tracked = sides.src && g.src_tracked;
  dst_tracked = sides.dst && g.dst_tracked;
  own = if is_of_network (end_if sides.src g.wrote.src) || is_of_network (end_if sides.dst g.wrote.dst) then Some n else None;
}

-- if the test, or its negation, is that of a tag, it holds for these tags
abbrev pub fits_tag : List ℕ → Bool → Test → Bool
fits_tag tags negated (Tag n) = if negated then not (list_any (nat_eq n) tags) else list_any (nat_eq n) tags
fits_tag tags negated _ = true

-- so it is for each literal of the condition
abbrev pub tags_fit : List ℕ → List Lit → Bool
tags_fit tags cond = list_all (λ lit. fits_tag tags lit.not lit.test) cond

-- the test is that of a tag
abbrev pub is_tag : Test → Bool
is_tag (Tag n) = true
is_tag _ = false

-- no literal of the condition tests a tag
abbrev pub is_tagless : List Lit → Bool
is_tagless cond = list_all (λ lit. not (is_tag lit.test)) cond

-- a group has the number
abbrev pub is_in : List Group → ℕ → Bool
is_in groups n = list_any (λ g. among g.numbers.items n) groups

-- each class of the group is used, and has the group's view
abbrev pub AreAlike : Sides → List Class → Group → Type 0
AreAlike sides classes group = (n : ℕ) → among group.numbers.items n ≡ true → (c : Class) × IsUsed classes n c × (seen_by c.progress sides n ≡ group.view)

-- the tags of each class of the group fit the condition
abbrev pub AllFit : List Class → List Lit → Group → Type 0
AllFit classes cond group = (n : ℕ) (c : Class) → among group.numbers.items n ≡ true → IsUsed classes n c → tags_fit c.progress.tags cond ≡ true
