-- How classes that are added and packets that moved stay over a recolouring.
use Rattle.std.proofs.Common.{List, length}
use Rattle.std.proofs.Math.Nat.{le_refl, le_trans}
use Rattle.fws_exec.specs.declared.going.Going.{Going}
use Rattle.fws_exec.specs.declared.spot.Class.{Class}
use Rattle.fws_exec.specs.Moving.{IsGrown}

pub grown-same : (going : Going) (cs : List Class) → IsGrown going cs cs
grown-same going cs = record {
  grows = λ n c used. used;
  count = le_refl (length cs);
  comes = λ test none n h. h;
}

pub grown-then : (going : Going) (old mid new : List Class) → IsGrown going old mid → IsGrown going mid new → IsGrown going old new
grown-then going old mid new f g = record {
  grows = λ n c used. g.grows n c (f.grows n c used);
  count = le_trans f.count g.count;
  comes = λ test none n h. g.comes test none n (f.comes test none n h);
}
