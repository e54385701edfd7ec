use Rattle.flow_watch.proofs.Passing.{all-pass}
use Rattle.flow_watch.proofs.laws.zero_is_pass.Goals as goal

pub returns-clause-narrow : goal.returns-clause-narrow
returns-clause-narrow c = λ m shift r packets values from s judged is. (all-pass m shift r packets values from s judged is).narrow

pub returns-clause-narrow_linear : goal.returns-clause-narrow_linear
returns-clause-narrow_linear c = λ m shift r packets values from s judged is. (all-pass m shift r packets values from s judged is).narrow_linear

pub returns-clause-wide : goal.returns-clause-wide
returns-clause-wide c = λ m shift r packets values from s judged is. (all-pass m shift r packets values from s judged is).wide
