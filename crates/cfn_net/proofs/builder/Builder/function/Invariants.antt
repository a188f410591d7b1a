use Rattle.std.proofs.Common.{◌≡◌, take}
use Rattle.cfn_model.specs.Network.{function_of}
use Rattle.cfn_net.specs.Building.{listings_of, with_function}
use Rattle.cfn_net.proofs.builder.Builder.function.Given as goal

abbrev pub invariant-loop-tuple : goal.invariant-loop-tuple
invariant-loop-tuple l = l.self ≡ with_function l.fn.self (function_of l.fn.self.sizes l.fn.self.upper l.scope l.default (listings_of (take l.tuple-index l.listed)))
