-- The three demands hold.
use Rattle.demands.specs.Demands.{Demands}
use Rattle.demands.proofs.Refusals.{first_demand}
use Rattle.demands.proofs.SecondDemand.{second_demand}
use Rattle.demands.proofs.ThirdDemand.{third_demand}

pub demands : Demands
demands = record { first = first_demand; second = second_demand; third = third_demand }
