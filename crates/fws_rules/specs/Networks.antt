-- The end that a mapped network writes: NETMAP (iptables-extensions(8)) and `bitmask` (pf.conf(5)).
use Rattle.std.specs.Prelude.{ℕ, ◌-◌, ◌*◌, ◌/◌, ◌^◌, None, max, min, refl}
use Rattle.std.proofs.Math.Nat.{le-min, le-max_left, min-le_left, mul-mod_left}
use Rattle.std.proofs.lemmas.Bool.{leb-true}
use Rattle.fws_num.specs.declared.prefix.Prefix.{Prefix}
use Rattle.fws_net.specs.declared.outcome.End.{End}

-- how many bits are written: those of the network, at least 1 and at most 32
abbrev pub written_len : ℕ → ℕ
written_len len = min 32 (max 1 len)

-- the first bits of the network, without a port
abbrev pub net_end : Prefix → End
net_end net = record {
  addr = net.addr / 2 ^ (32 - written_len net.len) * 2 ^ (32 - written_len net.len);
  len = written_len net.len;
  port = None;
  len_low = le-min (leb-true 1 32 refl) (le-max_left 1 net.len);
  len_high = min-le_left 32 (max 1 net.len);
  clear = mul-mod_left (net.addr / 2 ^ (32 - written_len net.len)) (2 ^ (32 - written_len net.len));
  port_on_whole = λ short. refl;
}
