-- Patterns of 32 bits and the floating-point numbers that they stand for (IEEE 754, binary32).
use Rattle.std.specs.Prelude.{ℕ, Bool, Float, Some, None, Option}
use Rattle.std.specs.Float.{binary32}
use Rattle.std.specs.Float.Ieee.{nan_bits, of_bits, to_bits, is_nan}
use Rattle.octets.specs.Choice.{pick}
use Rattle.float.specs.declared.Floating.{Floating}
use Rattle.float.specs.declared.Floating.TheVariants.{Number, Nan}

-- the 32 bits of a number, where they are known
abbrev pub Pattern : Type 0
Pattern = Option ℕ

-- is it a NaN's pattern: every bit of the exponent set, and a bit behind them
abbrev pub is_nan_pattern : ℕ → Bool
is_nan_pattern n = nan_bits binary32 n

-- what a pattern stands for
abbrev pub floating_of : ℕ → Floating
floating_of n = pick (is_nan_pattern n) (Nan n) (Number (of_bits binary32 n))

-- the pattern of a number; that of a NaN cannot be had
abbrev pub pattern_of : Float → Pattern
pattern_of x = pick (is_nan x) None (Some (to_bits binary32 x))

-- the pattern of either
abbrev pub bits_in : Floating → Pattern
bits_in (Number x) = pattern_of x
bits_in (Nan n) = Some n
