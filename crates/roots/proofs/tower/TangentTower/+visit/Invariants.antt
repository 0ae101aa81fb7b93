use Rattle.roots.proofs.tower.TangentTower.+visit.Given as goal

abbrev pub decreases-visit : goal.decreases-visit
decreases-visit g l = l.k
