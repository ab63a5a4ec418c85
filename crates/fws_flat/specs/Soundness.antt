-- When the numbers in flat code are right.
use Rattle.std.specs.Prelude.{ℕ, suc, Bool, true, ◌&&◌, nat_lt, nat_le, List, [], ◌∷◌, length}
use Rattle.std.specs.List.{list_all}
use Rattle.fws_flat.specs.declared.code.FlatAct.{FlatAct}
use Rattle.fws_flat.specs.declared.code.FlatAct.TheVariants.{Jump}
use Rattle.fws_flat.specs.declared.code.Ins.{Ins}
use Rattle.fws_flat.specs.declared.code.Part.{Part}
use Rattle.fws_flat.specs.declared.code.Flat.{Flat}
use Rattle.fws_flat.specs.Walk.{part_code}

-- the instruction at a place jumps forward, to at most the place past
abbrev pub act_ok : ℕ → ℕ → FlatAct → Bool
act_ok past at (Jump to) = nat_lt at to && nat_le to past
act_ok past at _ = true

-- instructions of which the first has the place at
abbrev pub code_ok : ℕ → ℕ → List Ins → Bool
code_ok past at [] = true
code_ok past at (i ∷ is) = act_ok past at i.act && code_ok past (suc at) is

-- a part lies in the code, and its jumps go forward, to at most its end
abbrev pub part_ok : List Ins → Part → Bool
part_ok code part = nat_le part.first part.past && nat_le part.past (length code) && code_ok part.past part.first (part_code code part)

-- every part lies in the code, and its jumps go forward, to at most its end
abbrev pub flat_ok : Flat → Bool
flat_ok f = list_all (part_ok f.code) f.arrive && list_all (part_ok f.code) f.deliver
    && list_all (part_ok f.code) f.forward && list_all (part_ok f.code) f.send
