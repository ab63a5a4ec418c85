-- Ends that a rule writes.
use Rattle.std.specs.Prelude.{ℕ, Option, refl}
use Rattle.std.proofs.lemmas.Bool.{leb-true}
use Rattle.std.proofs.Math.Nat.{mod-one, lt_irrefl, le_refl}
use Rattle.fws_net.specs.declared.outcome.End.{End}

-- a whole address, with a port or without one
abbrev pub host_end : ℕ → Option ℕ → End
host_end addr port = record {
  addr = addr;
  len = 32;
  port = port;
  len_low = leb-true 1 32 refl;
  len_high = le_refl 32;
  clear = mod-one addr;
  port_on_whole = λ short. elim (lt_irrefl 32 short) [ ];
}
