pub mod EngineWords
