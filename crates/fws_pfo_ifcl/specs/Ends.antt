-- The ends that rules hold, and their numbers.
use Rattle.std.specs.Prelude.{ℕ, suc, Bool, not, ◌&&◌, nat_eq, Option, Some, None, List, [], ◌∷◌, ◌++◌, if◌then◌else◌}
use Rattle.std.specs.Option.{option_eq}
use Rattle.std.specs.List.{list_any}
use Rattle.fws_net.specs.declared.outcome.End.{End}
use Rattle.fws_pf.specs.Walk.{is_met}
use Rattle.fws_pfo.specs.declared.config.PfoKind.{PfoKind}
use Rattle.fws_pfo.specs.declared.config.PfoKind.TheVariants.{Pass, Block, Match}
use Rattle.fws_pfo.specs.declared.config.PfoRule.{PfoRule}

-- the ends have the same plain parts
abbrev pub same_end : End → End → Bool
same_end x y = nat_eq x.addr y.addr && (nat_eq x.len y.len && option_eq nat_eq x.port y.port)

-- the end that a rule of the kind holds for the packets that it passes
abbrev pub end_held : PfoKind → Option End → Option End
end_held Pass to = to
end_held Block to = None
end_held Match to = None

-- the end that a rule holds on the pass for the rules behind it: none if it isn't met there, or if the pass ends with it
abbrev pub end_of : Bool → PfoRule → Option End
end_of outward r = if is_met r.way outward && not r.quick then end_held r.kind r.to else None

-- an end is among others, and put there if it isn't
abbrev pub with_end : List End → Option End → List End
with_end ends None = ends
with_end ends (Some e) = if list_any (same_end e) ends then ends else ends ++ e ∷ []

-- the ends that rules hold on the pass, each once, behind others
abbrev pub gathered : Bool → List End → List PfoRule → List End
gathered outward ends [] = ends
gathered outward ends (r ∷ rs) = gathered outward (with_end ends (end_of outward r)) rs

-- the place of an end among others, or the one behind them
abbrev pub place_of : List End → End → ℕ
place_of [] e = 0
place_of (first ∷ ends) e = if same_end e first then 0 else suc (place_of ends e)

-- the number of an end, counted from 1, and that of none
abbrev pub number_of : List End → Option End → ℕ
number_of ends None = 0
number_of ends (Some e) = suc (place_of ends e)
