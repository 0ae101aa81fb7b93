-- Dual numbers u + v ε over a ring, with ε ε = 0.
use Rattle.std.specs.Prelude.{◌&&◌}
use Rattle.algebra.specs.Rings.{Ops}

-- u at 0, v at 1
abbrev pub dual : Ops → Ops
dual o = record {
  V = (o.V × o.V);
  nought = (o.nought, o.nought);
  unit = (o.unit, o.nought);
  plus = λ x y. (o.plus x.0 y.0, o.plus x.1 y.1);
  times = λ x y. (o.times x.0 y.0, o.plus (o.times x.0 y.1) (o.times x.1 y.0));
  minus = λ x. (o.minus x.0, o.minus x.1);
  alike = λ x y. o.alike x.0 y.0 && o.alike x.1 y.1;
}
