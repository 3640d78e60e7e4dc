pub mod ClusterLaws
